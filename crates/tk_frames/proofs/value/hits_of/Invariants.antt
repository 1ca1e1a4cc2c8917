use Rattle.std.proofs.Common.{◌≡◌, ◌-◌, ◌*◌, ◌≤◌, ◌++◌, length}
use Rattle.tk_frames.specs.Fields.{numbers}
use Rattle.tk_frames.proofs.value.hits_of.Given as goal

abbrev pub invariant-loop : goal.invariant-loop
invariant-loop l =
    record {
      len : 4 * (l.count - l.counter) ≤ length l.rest;
      rest : l.hits.items ++ numbers (l.count - l.counter) l.rest ≡ numbers l.count l.bytes;
    }
