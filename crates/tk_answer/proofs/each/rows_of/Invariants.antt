-- The vectors so far.
use Rattle.std.proofs.Common.{◌≡◌, ◌++◌, length, map}
use Rattle.std.specs.Vec.Iter.{into_iter_items, into_iter_len}
use Rattle.tk_answer.proofs.each.rows_of.Given as goal

abbrev pub invariant-loop-vector : goal.invariant-loop-vector
invariant-loop-vector l =
    (l.yielded ++ into_iter_items l.vector-iterator ≡ into_iter_items l.initial.vector-iterator)
    × (map (λ row. row.items) l.rows.items ≡ l.yielded)
    × (into_iter_len l.vector-iterator ≡ length (into_iter_items l.vector-iterator))
