use Rattle.std.proofs.Common.{◌≡◌, ◌++◌, ◌*◌, ◌-◌, ◌≤◌, length}
use Rattle.tk_checkpoint.specs.Saved.{entry_len}
use Rattle.tk_checkpoint.specs.Reading.{positions_from}
use Rattle.tk_checkpoint.proofs.writes.positions_of.Given as goal

abbrev pub invariant-loop : goal.invariant-loop
invariant-loop l =
    record {
      long : (l.count - l.counter) * entry_len l.shape ≤ length l.rest;
      left : l.positions.items ++ positions_from l.shape.hits (l.count - l.counter) l.rest ≡ positions_from l.shape.hits l.count l.bytes;
    }
