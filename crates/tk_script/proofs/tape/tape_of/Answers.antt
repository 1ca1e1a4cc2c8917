-- What is after the first line is the pieces.
use Rattle.std.proofs.Common.{refl, rules}
use Rattle.tk_script.specs.Reading.{read_tape}
use Rattle.tk_script.proofs.AnswerLaws.{in_turn, then_said, told_same}
use Rattle.tk_script.proofs.tape.tape_of.Goals as goal

pub returns-in_err-here : goal.returns-in_err-here
unfolding read_tape
returns-in_err-here c = search (rules, in_turn)

pub returns : goal.returns
unfolding read_tape
returns c =
    told_same c.pieces_of.result _ _ _ (then_said _ c.in_ok-here.ensures refl) c.pieces_of.ensures
