-- The sizes of 64 buckets of eight slots are in range.
use Rattle.std.proofs.Common.{refl}
use Rattle.std.specs.Int.Count.{ones}
use Rattle.tk_bucket.proofs.Offers.{in_sizes}
use Rattle.tk_bucket_tests.proofs.bucket_tests.buckets_of_eight_slots.Goals as goal

pub wide-requires : goal.wide-requires
unfolding ones
wide-requires g c = in_sizes _ _ _ refl refl
