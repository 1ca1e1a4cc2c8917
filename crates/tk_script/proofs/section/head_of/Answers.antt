-- The lines are read one by one.
use Rattle.std.proofs.Common.{rules}
use Rattle.tk_script.specs.Reading.{read_head}
use Rattle.tk_script.proofs.AnswerLaws.{in_turn}
use Rattle.tk_script.proofs.section.head_of.Goals as goal

pub returns-in_err-format : goal.returns-in_err-format
unfolding read_head
returns-in_err-format c = search (rules, in_turn)

pub returns-in_err-shape : goal.returns-in_err-shape
unfolding read_head
returns-in_err-shape c = search (rules, in_turn)

pub returns-in_err-keyed : goal.returns-in_err-keyed
unfolding read_head
returns-in_err-keyed c = search (rules, in_turn)

pub returns : goal.returns
unfolding read_head
returns c = search (rules, in_turn)
