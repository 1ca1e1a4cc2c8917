-- The first slots of the bucket are filled.
use Rattle.std.proofs.Common.{map}
use Rattle.tk_bucket.specs.Table.{bucket_at}
use Rattle.tk_table.specs.Table.{other_in}
use Rattle.tk_table.proofs.Filling.{IsFilled}
use Rattle.tk_table.proofs.fill.fill_bucket.Given as goal

abbrev pub invariant-loop-slot : goal.invariant-loop-slot
invariant-loop-slot l =
    IsFilled l.initial.index l.bucket l.slot
    (map (other_in l.bucket) (bucket_at l.buckets.contents.table l.bucket)) l.index
