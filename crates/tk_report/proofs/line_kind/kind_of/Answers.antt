-- What was read of the line is what it says.
use Rattle.std.proofs.Common.{◌∙◌, subst}
use Rattle.tk_script.specs.declared.cause.Cause.TheVariants as cause
use Rattle.tk_script.specs.Reading.{IsTaken, read_turn}
use Rattle.tk_report.proofs.KindLaws.{told-kind, told-none}
use Rattle.tk_report.proofs.line_kind.kind_of.Goals as goal

pub returns-in-Some : goal.returns-in-Some
returns-in-Some c =
    let line = c.args.line.now in
    told-kind line c.in-Some.kind
    (subst (λ o. IsTaken o (read_turn line)) c.in-Some.is c.in_ok-kind.ensures)

pub returns-in-None : goal.returns-in-None
returns-in-None c =
    let line = c.args.line.now in
    c.no_line.ensures
    ∙ told-none line cause.Form
    (subst (λ o. IsTaken o (read_turn line)) c.in-None.is c.in_ok-kind.ensures)
