-- The bucket stands in front of the run that begins with it.
use Rattle.std.proofs.Common.{◌∙◌, ℕ, ap, take}
use Rattle.tk_client.proofs.LookingLaws.{run-front}
use Rattle.tk_client.proofs.lookup.bucket_at.Goals as goal

pub returns-clause-bytes : goal.returns-clause-bytes
returns-clause-bytes g c =
    let buckets = c.args.buckets.now in
    ap (λ (n : ℕ). take n c.run.result.now) c.width-width.ensures.width
    ∙ run-front (g.B.Blocks.width buckets) (g.B.Blocks.blocks buckets) c.args.bucket
    c.run.result.now c.width-width.ensures.each c.run.ensures
