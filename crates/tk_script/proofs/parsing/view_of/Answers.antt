-- The script is read, then the history, and then what is after it.
use Rattle.std.proofs.Common.{rules}
use Rattle.tk_script.specs.Reading.{read_view}
use Rattle.tk_script.proofs.AnswerLaws.{in_turn}
use Rattle.tk_script.proofs.parsing.view_of.Goals as goal

pub returns-in_err-first : goal.returns-in_err-first
unfolding read_view
returns-in_err-first c = search (rules, in_turn)

pub returns-in_err-history : goal.returns-in_err-history
unfolding read_view
returns-in_err-history c = search (rules, in_turn)

pub returns-in_err-tape : goal.returns-in_err-tape
unfolding read_view
returns-in_err-tape c = search (rules, in_turn)

pub returns : goal.returns
unfolding read_view
returns c = search (rules, in_turn)
