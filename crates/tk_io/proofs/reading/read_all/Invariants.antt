-- What was read so far and what is left are what was left at first, and there is room for what is to come.
use Rattle.std.proofs.Common.{◌≡◌, ◌≤◌, ◌-◌, vec_len}
use Rattle.tk_io.specs.Content.{before_taking}
use Rattle.tk_io.proofs.reading.read_all.Given as goal

abbrev pub invariant-pieces : goal.invariant-pieces
invariant-pieces g l = record {
  taken : g.S.Source.left l.initial.source ≡ before_taking l.all.items (g.S.Source.left l.source);
  within : vec_len l.all ≤ l.limit;
  counts : g.S.Source.faults l.initial.source ≤ g.S.Source.faults l.source;
}

abbrev pub decreases-pieces : goal.decreases-pieces
decreases-pieces g l = l.limit - vec_len l.all
