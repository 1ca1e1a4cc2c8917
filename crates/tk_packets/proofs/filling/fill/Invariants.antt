-- What came into the front of the buffer and what is left are what was left at first.
use Rattle.std.proofs.Common.{◌≡◌, ◌≤◌, ◌-◌, length, take}
use Rattle.tk_io.specs.Content.{before_taking}
use Rattle.tk_packets.proofs.filling.fill.Given as goal

abbrev pub invariant-pieces : goal.invariant-pieces
invariant-pieces g l = record {
  taken : g.S.Source.left l.initial.source ≡ before_taking (take l.done l.buf) (g.S.Source.left l.source);
  within : l.done ≤ length l.buf;
  counts : g.S.Source.faults l.initial.source ≤ g.S.Source.faults l.source;
}

abbrev pub decreases-pieces : goal.decreases-pieces
decreases-pieces g l = length l.buf - l.done
