-- One more frame.
use Rattle.std.proofs.Common.{◌∙◌}
use Rattle.tk_relay.specs.Parts.{masked_reply_frame}
use Rattle.tk_relay.proofs.Places.{seen-next}
use Rattle.tk_relay.proofs.relayed_read.see_replies.Goals as goal

pub loop-reply-preserved : goal.loop-reply-preserved
loop-reply-preserved c =
    seen-next masked_reply_frame c.args.replies.now c.loop-reply.reply-index c.reply-item.result
    c.loop-reply.out.items c.encode_masked_reply.new.out.items c.loop-reply-test.true
    c.reply-item.is c.in_ok-encode_masked_reply.ensures.ok
    ∙ c.loop-reply.invariant
