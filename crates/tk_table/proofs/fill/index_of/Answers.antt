use Rattle.std.proofs.Common.{arith}
use Rattle.tk_table.proofs.Filling.{blank_row, blank_within, bucket_filled, all_filled}
use Rattle.tk_table.proofs.fill.index_of.Goals as goal

pub fill_bucket-requires-clause-wide : goal.fill_bucket-requires-clause-wide
fill_bucket-requires-clause-wide c =
    blank_within c.args.buckets.now.contents.table c.args.count c.args.depth
    (omega (arith, c.sized.ensures.sizes.count, c.requires.count)) c.loop-bucket.bucket
    c.loop-bucket.index c.loop-bucket-test.true c.loop-bucket.invariant

pub fill_bucket-requires-clause-deep : goal.fill_bucket-requires-clause-deep
fill_bucket-requires-clause-deep c =
    blank_row c.args.buckets.now.contents.table c.args.count c.args.depth
    (omega (arith, c.sized.ensures.sizes.count, c.requires.count)) c.loop-bucket.bucket
    c.loop-bucket.index c.loop-bucket-test.true c.loop-bucket.invariant

pub loop-bucket-preserved : goal.loop-bucket-preserved
loop-bucket-preserved c =
    bucket_filled c.args.buckets.now.contents.table c.args.count c.args.depth
    (omega (arith, c.sized.ensures.sizes.count, c.requires.count)) c.loop-bucket.bucket
    c.loop-bucket.index c.loop-bucket-test.true c.loop-bucket.invariant _ c.fill_bucket.ensures

pub returns : goal.returns
returns c =
    all_filled c.args.buckets.now.contents.table c.args.count c.args.depth
    (omega (arith, c.sized.ensures.sizes.count, c.requires.count)) c.loop-bucket.bucket
    c.loop-bucket.index (omega (arith, c.loop-bucket-test.false)) c.loop-bucket.invariant
