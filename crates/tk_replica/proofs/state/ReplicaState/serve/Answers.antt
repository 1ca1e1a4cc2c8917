-- The reply is over the epoch that the read names.
use Rattle.std.proofs.Common.{◌∙◌, refl, ap, subst}
use Rattle.tk_shape.specs.declared.shape.Shape.{Shape}
use Rattle.tk_frames.specs.Ranges.{IsReply}
use Rattle.tk_frames.specs.Spelling.{reply_frame}
use Rattle.tk_replica.specs.Replies.{reply_over}
use Rattle.tk_replica.proofs.Replying.{over-epoch, for-bytes}
use Rattle.tk_replica.proofs.state.ReplicaState.serve.Goals as goal

pub returns-clause-reply : goal.returns-clause-reply
returns-clause-reply c = λ shape E is.
    let read = c.in_ok-read.read in
    let epoch = c.epoch.result.now in
    c.in_ok-reply.ensures.reply
    ∙ ap reply_frame
    (over-epoch shape E read.epoch epoch read (c.epoch.ensures.stands shape E is) refl
    ∙ for-bytes shape E c.args.self.now c.args.frame.now read is c.in_ok-read.ensures.asked)

pub returns-clause-in_range : goal.returns-clause-in_range
returns-clause-in_range c = λ shape E is.
    let read = c.in_ok-read.read in
    let epoch = c.epoch.result.now in
    subst (IsReply shape)
    (over-epoch shape E read.epoch epoch read (c.epoch.ensures.stands shape E is) refl
    ∙ for-bytes shape E c.args.self.now c.args.frame.now read is c.in_ok-read.ensures.asked)
    (subst (λ (sh : Shape). IsReply sh (reply_over epoch read)) (c.epoch.ensures.same ∙ is.same)
    c.in_ok-reply.ensures.in_range)
