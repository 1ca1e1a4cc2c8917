use Rattle.std.proofs.Common.{arith}
use Rattle.tk_bucket.proofs.Powers.{one_bit}
use Rattle.tk_bucket.proofs.cut.Cut.of.Goals as goal

pub invariant_of-page : goal.invariant_of-page
invariant_of-page c =
    let told = c.per_page-buckets.ensures in
    let table = c.args.table.in_range in
    record {
      in_range = record {
        buckets_power = one_bit c.per_page-buckets.result.0 c.per_page-buckets.result.1 told.power;
        buckets_low = told.some;
        buckets_high = omega (arith, told.per_page.few, table.buckets_high);
        depth_low = table.depth_low;
        depth_high = table.depth_high;
        block_low = table.block_low;
        block_high = table.block_high;
      };
    }
