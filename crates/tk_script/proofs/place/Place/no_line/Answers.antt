-- A text without lines is empty.
use Rattle.std.proofs.Common.{◌<◌, length, ap, sym, subst, arith, rules}
use Rattle.tk_script.specs.Answer.{IsRefusal}
use Rattle.tk_script.specs.Grammar.{lines_of}
use Rattle.tk_script.specs.Reading.{no_line}
use Rattle.tk_script.proofs.LineLaws.{empty_lines, no_lines}
use Rattle.tk_script.proofs.PlaceLaws.{no_line_here, line_here}
use Rattle.tk_script.proofs.place.Place.no_line.Goals as goal

pub returns-then-not-is_empty : goal.returns-then-not-is_empty
returns-then-not-is_empty c =
    let some : 0 < length c.args.self.rest.now = search rules in
    subst (λ e. IsRefusal e (no_line c.args.self.line (lines_of c.args.self.rest.now)))
    (sym c.refused.ensures)
    (line_here c.args.self.line (lines_of c.args.self.rest.now)
    (λ none. absurd (omega (arith, ap length (no_lines c.args.self.rest.now none), some))))

pub returns : goal.returns
returns c =
    no_line_here c.args.self.line (lines_of c.args.self.rest.now)
    (empty_lines c.args.self.rest.now (search rules))
