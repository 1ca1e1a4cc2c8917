-- The tape of a drawn script is read, and nothing stands after it.
use Rattle.std.proofs.Common.{rules}
use Rattle.tk_script.specs.Reading.{read_end}
use Rattle.tk_script.proofs.AnswerLaws.{in_turn}
use Rattle.tk_script.proofs.parsing.tape_behind.Goals as goal

pub returns-in_err-no_line-in-Some : goal.returns-in_err-no_line-in-Some
unfolding read_end
returns-in_err-no_line-in-Some c = search (rules, in_turn)

pub returns-in_err-tape-in-None : goal.returns-in_err-tape-in-None
unfolding read_end
returns-in_err-tape-in-None c = search (rules, in_turn)

pub returns-in_err-no_line-in-None : goal.returns-in_err-no_line-in-None
unfolding read_end
returns-in_err-no_line-in-None c = search (rules, in_turn)

pub returns-in_ok-no_line-in-Some : goal.returns-in_ok-no_line-in-Some
unfolding read_end
returns-in_ok-no_line-in-Some c = search (rules, in_turn)

pub returns-in_ok-no_line-in-None : goal.returns-in_ok-no_line-in-None
unfolding read_end
returns-in_ok-no_line-in-None c = search (rules, in_turn)
