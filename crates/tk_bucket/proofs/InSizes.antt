-- Sizes that pass a test are those of a table.
use Rattle.std.proofs.Common.{◌≡◌, ℕ, true}
use Rattle.std.specs.Prelude.{◌&&◌}
use Rattle.std.specs.Int.{is_power_of_two}
use Rattle.std.proofs.lemmas.Bool.{and_parts}
use Rattle.tk_shape.specs.Limits.{is_between}
use Rattle.tk_shape.proofs.Offers.{between-parts}
use Rattle.tk_bucket.specs.Sizes.{IsSizes}

pub in_sizes : (buckets depth block : ℕ) → is_power_of_two buckets ≡ true →
    (is_between 1 16384 buckets && (is_between 1 8 depth && is_between 24 1024 block)) ≡ true →
    IsSizes buckets depth block
in_sizes buckets depth block power within =
    let first = and_parts (is_between 1 16384 buckets) (is_between 1 8 depth && is_between 24 1024 block) within in
    let later = and_parts (is_between 1 8 depth) (is_between 24 1024 block) first.1 in
    let counted = between-parts 1 16384 buckets first.0 in
    let deep = between-parts 1 8 depth later.0 in
    let long = between-parts 24 1024 block later.1 in
    record {
      buckets_power = power;
      buckets_low = counted.0;
      buckets_high = counted.1;
      depth_low = deep.0;
      depth_high = deep.1;
      block_low = long.0;
      block_high = long.1;
    }
