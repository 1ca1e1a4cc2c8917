-- The five parts are the text.
use Rattle.std.proofs.Common.{ℕ, ◌∷◌, [], flat_map, codes}
use Rattle.std.specs.List.{range_with_len}
use Rattle.tk_report.specs.Leaving.{got_by, unsent_by}
use Rattle.tk_report.specs.Report.{line, history_lines, log_lines, role_in, unsent_line, report_text}
use Rattle.tk_report.proofs.ReportLaws.{five_parts}
use Rattle.tk_report.proofs.report_text.push_told.Goals as goal

pub returns : goal.returns
unfolding report_text
returns g c =
    let told = c.args.told.now in
    let shape = told.shape.now in
    let clients = g.L.Left.clients told.left.now in
    let lines_of = λ (log : ℕ) (k : ℕ). log_lines log k (got_by clients k log) in
    let of_log = λ (log : ℕ). flat_map (lines_of log) (role_in told.roles.now log).followers in
    let unsent_of = λ (k : ℕ). unsent_line k (unsent_by clients k) in
    record {
      ok = five_parts c.args.out.now.items
          (line (codes "report" ∷ []))
          (history_lines shape told.history.now)
          (flat_map of_log (range_with_len 0 shape.logs))
          (flat_map unsent_of (range_with_len 0 shape.clients))
          (line (codes "end" ∷ []))
          c.in_ok-extend_from_slice.ensures.items
          c.in_ok-push_history.ensures.ok
          c.in_ok-push_logs.ensures.ok
          c.in_ok-push_all_unsent.ensures.ok
          c.in_ok-extend_from_slice-2.ensures.items;
    }
