-- Over one range the reads are shared, over several the ranges are asked for sums.
use Rattle.std.proofs.Common.{◌≡◌, List, subst}
use Rattle.std.specs.Prelude.{IfOk}
use Rattle.tk_run.specs.Rows.{Frame}
use Rattle.tk_run.proofs.RangingLaws.{all-whole, all-divided}
use Rattle.tk_run.proofs.replies.batch.Goals as goal

pub returns-then-crew-gt1 : goal.returns-then-crew-gt1
returns-then-crew-gt1 g c shape E stands =
    subst (λ (fs : List Frame). IfOk c.batch_in_ranges.result (λ replies. replies.items ≡ fs))
    (all-divided (g.A.Sums.sum c.args.sums.now) c.args.crew.shards shape E c.args.frames.now
    c.if-crew-gt1.true)
    (c.batch_in_ranges.ensures shape E stands)

pub returns : goal.returns
returns g c shape E stands =
    subst (λ (fs : List Frame). IfOk c.batch_at_once.result (λ replies. replies.items ≡ fs))
    (all-whole (g.A.Sums.sum c.args.sums.now) c.args.crew.shards shape E c.args.frames.now
    c.if-crew-gt1.false)
    (c.batch_at_once.ensures shape E stands)
