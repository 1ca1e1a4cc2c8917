-- The last reply is the one that is looked at.
use Rattle.std.proofs.Common.{◌∙◌, sym}
use Rattle.tk_script.specs.SoundReplies.{is_before}
use Rattle.tk_script.proofs.OrderedLaws.{follows-last}
use Rattle.tk_script.proofs.reply_lines.may_follow.Goals as goal

pub returns-in-Some : goal.returns-in-Some
returns-in-Some c =
    c.is_before.ensures
    ∙ sym (follows-last is_before c.args.before.now c.in-Some.last.now c.args.next.now
    (sym c.in-Some.ensures.value))
