-- The sizes of two buckets of two slots are in range.
use Rattle.std.proofs.Common.{refl}
use Rattle.std.specs.Int.Count.{ones}
use Rattle.tk_bucket.proofs.Offers.{in_sizes}
use Rattle.tk_bucket_tests.proofs.bucket_tests.snapshot_stays.Goals as goal

pub new-requires : goal.new-requires
unfolding ones
new-requires g c = in_sizes _ _ _ refl refl
