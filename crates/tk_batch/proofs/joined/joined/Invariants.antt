-- The parts so far.
use Rattle.std.proofs.Common.{◌≡◌, ◌++◌, length}
use Rattle.std.specs.Vec.Iter.{into_iter_items, into_iter_len}
use Rattle.tk_batch.specs.Parts.{Joins}
use Rattle.tk_batch.proofs.joined.joined.Given as goal

abbrev pub invariant-loop-part : goal.invariant-loop-part
invariant-loop-part l =
    (l.yielded ++ into_iter_items l.part-iterator ≡ into_iter_items l.initial.part-iterator)
    × Joins l.yielded l.all.items
    × (into_iter_len l.part-iterator ≡ length (into_iter_items l.part-iterator))
