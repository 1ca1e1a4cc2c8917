-- The bytes of the vectors so far.
use Rattle.std.proofs.Common.{◌≡◌, map, take}
use Rattle.tk_shards.proofs.parts.rows_of.Given as goal

abbrev pub invariant-loop-vector : goal.invariant-loop-vector
invariant-loop-vector l = map (λ row. row.items) l.rows.items ≡ take l.vector-index l.vectors
