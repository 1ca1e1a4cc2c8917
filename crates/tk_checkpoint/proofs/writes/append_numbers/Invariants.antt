use Rattle.std.proofs.Common.{◌≡◌, ◌++◌, ◌*◌, ◌-◌, ◌≤◌, length}
use Rattle.tk_frames.specs.Fields.{numbers}
use Rattle.tk_checkpoint.proofs.writes.append_numbers.Given as goal

abbrev pub invariant-loop : goal.invariant-loop
invariant-loop l =
    record {
      long : (l.count - l.counter) * 4 ≤ length l.rest;
      left : l.out.items ++ numbers (l.count - l.counter) l.rest ≡ l.fn.out.items ++ numbers l.count l.bytes;
    }
