-- The rows so far.
use Rattle.std.proofs.Common.{◌≡◌, ◌++◌, length, map}
use Rattle.std.specs.Vec.Iter.{into_iter_items, into_iter_len}
use Rattle.tk_shards.proofs.parts.bytes_of.Given as goal

abbrev pub invariant-loop-row : goal.invariant-loop-row
invariant-loop-row l =
    (l.yielded ++ into_iter_items l.row-iterator ≡ into_iter_items l.initial.row-iterator)
    × (l.out.items ≡ map (λ row. row.items) l.yielded)
    × (into_iter_len l.row-iterator ≡ length (into_iter_items l.row-iterator))
