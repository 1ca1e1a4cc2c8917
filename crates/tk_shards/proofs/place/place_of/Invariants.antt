-- The range begins at the block or before it, and behind it the ranges begin later.
use Rattle.std.proofs.Common.{◌<◌, ◌≤◌, ◌-◌, length}
use Rattle.std.specs.Prelude.{slice_index_or}
use Rattle.tk_shards.specs.Ranged.{Ranged}
use Rattle.tk_shards.proofs.place.place_of.Given as goal

abbrev pub invariant-loop-high : goal.invariant-loop-high
invariant-loop-high l = record {
  order : l.low < l.high;
  within : l.high ≤ length l.shards;
  begun : (d : Ranged) → (slice_index_or l.shards l.low d).first ≤ l.i;
  later : (d : Ranged) → l.high < length l.shards → l.i < (slice_index_or l.shards l.high d).first;
}

abbrev pub decreases-loop-high : goal.decreases-loop-high
decreases-loop-high l = l.high - l.low
