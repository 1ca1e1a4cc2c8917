-- What is after the first line is the turns.
use Rattle.std.proofs.Common.{refl, rules}
use Rattle.tk_script.specs.Reading.{read_history}
use Rattle.tk_script.proofs.AnswerLaws.{in_turn, then_said, told_same}
use Rattle.tk_script.proofs.history_section.history_of.Goals as goal

pub returns-in_err-here : goal.returns-in_err-here
unfolding read_history
returns-in_err-here c = search (rules, in_turn)

pub returns : goal.returns
unfolding read_history
returns c =
    told_same c.turns_of.result _ _ _ (then_said _ c.in_ok-here.ensures refl) c.turns_of.ensures
