-- The scripts are read one after the other, and then the history.
use Rattle.std.proofs.Common.{rules}
use Rattle.tk_script.specs.Reading.{read_two}
use Rattle.tk_script.proofs.AnswerLaws.{in_turn}
use Rattle.tk_script.proofs.two_scripts.two_of.Goals as goal

pub returns-in_err-first : goal.returns-in_err-first
unfolding read_two
returns-in_err-first c = search (rules, in_turn)

pub returns-in_err-second : goal.returns-in_err-second
unfolding read_two
returns-in_err-second c = search (rules, in_turn)

pub returns-in_err-history : goal.returns-in_err-history
unfolding read_two
returns-in_err-history c = search (rules, in_turn)

pub returns : goal.returns
unfolding read_two
returns c = search (rules, in_turn)
