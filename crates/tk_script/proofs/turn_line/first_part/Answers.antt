-- The text up to its first space, and the text after it.
use Rattle.std.proofs.lemmas.List.{take_rest}
use Rattle.tk_script.proofs.TurnParts.{parts-first, parts-whole}
use Rattle.tk_script.proofs.turn_line.first_part.Goals as goal

pub returns-in-Some-clause-some : goal.returns-in-Some-clause-some
returns-in-Some-clause-some c =
    let first = parts-first c.args.text.now c.in-Some.end
    c.in-Some.ensures.within c.in-Some.ensures.at c.in-Some.ensures.first in
    rw take_rest first

pub returns-in-None-clause-none : goal.returns-in-None-clause-none
returns-in-None-clause-none c = parts-whole c.args.text.now c.in-None.ensures.none
