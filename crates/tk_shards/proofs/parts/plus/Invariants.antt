-- The sums so far, and behind them the others, are all.
use Rattle.std.proofs.Common.{◌≡◌, ◌++◌, length, map, drop}
use Rattle.std.specs.Vec.Iter.{into_iter_items, into_iter_len}
use Rattle.tk_shards.specs.Parts.{xor_rows}
use Rattle.tk_shards.proofs.parts.plus.Given as goal

abbrev pub invariant-loop-sum : goal.invariant-loop-sum
invariant-loop-sum l = record {
  counted : into_iter_len l.sum-iterator ≡ length (into_iter_items l.sum-iterator);
  same : map length (drop (length l.all.items) l.others) ≡ map length (into_iter_items l.sum-iterator);
  added : l.all.items ++ xor_rows (into_iter_items l.sum-iterator) (drop (length l.all.items) l.others)
      ≡ xor_rows (into_iter_items l.initial.sum-iterator) l.others;
}
