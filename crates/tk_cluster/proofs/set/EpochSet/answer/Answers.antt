-- The reply over the server's epoch is that over the writes before its mark.
use Rattle.std.proofs.Common.{◌∙◌, subst}
use Rattle.tk_cluster.specs.Refusals.{SpellsRead}
use Rattle.tk_cluster.proofs.Replying.{reply-over}
use Rattle.tk_cluster.proofs.set.EpochSet.answer.Goals as goal

pub returns-clause-reply : goal.returns-clause-reply
returns-clause-reply c shape E stands =
    let bytes = c.args.frame.now in
    let read = c.in_ok-read.read in
    c.in_ok-reply.ensures.reply
    ∙ reply-over shape E c.args.self.now.number c.epoch.result.now bytes read
    (c.epoch.ensures.is shape E stands) c.in_ok-read.ensures.epoch
    (subst (λ s. SpellsRead s bytes read) stands.same c.in_ok-read.ensures.spells)
