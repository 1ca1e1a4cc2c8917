-- The sink has gained the bytes that are done, and its count of faults has not fallen.
use Rattle.std.proofs.Common.{◌≡◌, ◌≤◌, ◌-◌, length, take}
use Rattle.tk_io.specs.Content.{gained}
use Rattle.tk_io.proofs.writing.put_all.Given as goal

abbrev pub invariant-pieces : goal.invariant-pieces
invariant-pieces g l = record {
  gained : g.K.Sink.held l.sink ≡ gained (g.K.Sink.held l.initial.sink) (take l.done l.bytes);
  counts : g.K.Sink.faults l.initial.sink ≤ g.K.Sink.faults l.sink;
}

abbrev pub decreases-pieces : goal.decreases-pieces
decreases-pieces g l = length l.bytes - l.done
