-- The first writes have come.
use Rattle.std.proofs.Common.{◌≡◌, ◌≤◌, take}
use Rattle.tk_table.proofs.latest.Latest.of.Given as goal

abbrev pub invariant-loop-i : goal.invariant-loop-i
invariant-loop-i l = record {
  room : l.count ≤ l.latest.room;
  positions : l.latest.positions ≡ take l.i l.positions;
  pairs : l.latest.pairs ≡ take l.i l.pairs;
}
