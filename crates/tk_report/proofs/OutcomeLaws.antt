-- The text of what a run of a script leaves is the report of the run.
use Rattle.std.proofs.Common.{◌∙◌, ap, List}
use Rattle.tk_shape.specs.declared.shape.Shape.{Shape}
use Rattle.tk_schedule.specs.declared.history.History.{History}
use Rattle.tk_script.specs.declared.role.Role.{Role}
use Rattle.tk_report.specs.Leaving.{got_by, unsent_by}
use Rattle.tk_report.specs.Outcomes.{OutcomesReport}
use Rattle.tk_report.specs.Report.{report_text}
use Rattle.tk_report.proofs.LeavingLaws.{ends-text}

pub outcomes-report : OutcomesReport
outcomes-report S w H o left =
    let got = got_by o.clients in
    let unsent = unsent_by o.clients in
    ap (λ (s : Shape). report_text s o.roles o.history got unsent) left.shape
    ∙ ap (λ (r : List Role). report_text S.shape r o.history got unsent) left.roles
    ∙ ap (λ (h : History). report_text S.shape S.roles h got unsent) left.history
    ∙ ends-text S w H o.clients left.clients
