-- The scripts and the history are read, and then what is after them.
use Rattle.std.proofs.Common.{rules}
use Rattle.tk_script.specs.Reading.{read_mirror}
use Rattle.tk_script.proofs.AnswerLaws.{in_turn}
use Rattle.tk_script.proofs.parsing.mirror_of.Goals as goal

pub returns-in_err-two : goal.returns-in_err-two
unfolding read_mirror
returns-in_err-two c = search (rules, in_turn)

pub returns-in_err-tape : goal.returns-in_err-tape
unfolding read_mirror
returns-in_err-tape c = search (rules, in_turn)

pub returns : goal.returns
unfolding read_mirror
returns c = search (rules, in_turn)
