-- The sizes of 256 buckets of four slots are in range.
use Rattle.std.proofs.Common.{refl}
use Rattle.std.specs.Int.Count.{ones}
use Rattle.tk_bucket.proofs.Offers.{in_sizes}
use Rattle.tk_bucket_tests.proofs.bucket_tests.wide_of.Goals as goal

pub restore-requires-clause-sizes : goal.restore-requires-clause-sizes
unfolding ones
restore-requires-clause-sizes c = in_sizes _ _ _ refl refl
