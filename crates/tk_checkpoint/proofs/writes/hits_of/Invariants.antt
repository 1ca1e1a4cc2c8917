use Rattle.std.proofs.Common.{◌≡◌, ◌++◌, ◌*◌, ◌-◌, ◌≤◌, length}
use Rattle.tk_checkpoint.specs.Saved.{entry_len}
use Rattle.tk_checkpoint.specs.Reading.{hits_from}
use Rattle.tk_checkpoint.proofs.writes.hits_of.Given as goal

abbrev pub invariant-loop : goal.invariant-loop
invariant-loop l =
    record {
      long : (l.count - l.counter) * entry_len l.shape ≤ length l.rest;
      left : l.hits.items ++ hits_from l.shape.hits (l.count - l.counter) l.rest ≡ hits_from l.shape.hits l.count l.bytes;
    }
