-- The parts so far are added, and the others have sums as long.
use Rattle.std.proofs.Common.{◌≡◌, ◌++◌, length, map}
use Rattle.std.specs.List.{All}
use Rattle.std.specs.Vec.Iter.{into_iter_items, into_iter_len}
use Rattle.tk_shards.specs.Parts.{AddUp, HasLengths}
use Rattle.tk_shards.proofs.parts.total_of.Given as goal

abbrev pub invariant-loop-part : goal.invariant-loop-part
invariant-loop-part l = record {
  order : l.yielded ++ into_iter_items l.part-iterator ≡ into_iter_items l.initial.part-iterator;
  counted : into_iter_len l.part-iterator ≡ length (into_iter_items l.part-iterator);
  added : AddUp l.initial.all.items l.yielded l.all.items;
  alike : All (HasLengths (map length l.all.items)) (into_iter_items l.part-iterator);
}
