-- What is after the first line is the replies.
use Rattle.std.proofs.Common.{rules}
use Rattle.tk_script.specs.Reading.{read_replies}
use Rattle.tk_script.proofs.AnswerLaws.{in_turn}
use Rattle.tk_script.proofs.reply_lines.replies_of.Goals as goal

pub returns-in_err-here : goal.returns-in_err-here
unfolding read_replies
returns-in_err-here c = search (rules, in_turn)

pub returns-in_err-replies : goal.returns-in_err-replies
unfolding read_replies
returns-in_err-replies c = search (rules, in_turn)

pub returns : goal.returns
unfolding read_replies
returns c = search (rules, in_turn)
