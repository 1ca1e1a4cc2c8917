-- The first buckets are filled.
use Rattle.tk_table.specs.Table.{others_from}
use Rattle.tk_table.proofs.Filling.{AreFilled, blank}
use Rattle.tk_table.proofs.fill.index_of.Given as goal

abbrev pub invariant-loop-bucket : goal.invariant-loop-bucket
invariant-loop-bucket l =
    AreFilled (others_from 0 l.buckets.contents.table)
    (blank l.count l.depth) l.bucket l.index
