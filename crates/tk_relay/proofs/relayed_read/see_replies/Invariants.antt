-- The frames so far, and those of what is left.
use Rattle.std.proofs.Common.{◌≡◌, ◌++◌, drop, flat_map}
use Rattle.tk_relay.specs.Parts.{masked_reply_frame}
use Rattle.tk_relay.proofs.relayed_read.see_replies.Given as goal

abbrev pub invariant-loop-reply : goal.invariant-loop-reply
invariant-loop-reply l =
    l.out.items ++ flat_map masked_reply_frame (drop l.reply-index l.replies)
    ≡ l.fn.out.items ++ flat_map masked_reply_frame l.replies
