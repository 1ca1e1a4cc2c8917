-- The sizes of 256 buckets of four slots are in range.
use Rattle.std.proofs.Common.{refl}
use Rattle.std.specs.Int.Count.{ones}
use Rattle.tk_bucket.proofs.Offers.{in_sizes}
use Rattle.tk_bucket_tests.proofs.bucket_tests.pages_shared_and_changed.Goals as goal

pub wide-requires : goal.wide-requires
unfolding ones
wide-requires g c = in_sizes _ _ _ refl refl
