-- The scripts and the history are read, the replies after them, and then the rest.
use Rattle.std.proofs.Common.{rules}
use Rattle.tk_script.specs.Reading.{read_wrong}
use Rattle.tk_script.proofs.AnswerLaws.{in_turn}
use Rattle.tk_script.proofs.parsing.wrong_of.Goals as goal

pub returns-in_err-two : goal.returns-in_err-two
unfolding read_wrong
returns-in_err-two c = search (rules, in_turn)

pub returns-in_err-replies : goal.returns-in_err-replies
unfolding read_wrong
returns-in_err-replies c = search (rules, in_turn)

pub returns-in_err-tape : goal.returns-in_err-tape
unfolding read_wrong
returns-in_err-tape c = search (rules, in_turn)

pub returns : goal.returns
unfolding read_wrong
returns c = search (rules, in_turn)
