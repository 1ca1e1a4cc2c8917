use Rattle.std.proofs.Common.{◌≡◌, ◌*◌, ◌-◌, ◌≤◌, nat_lt, length}
use Rattle.std.specs.List.{list_all}
use Rattle.tk_frames.specs.Fields.{numbers}
use Rattle.tk_checkpoint.proofs.window.are_below.Given as goal

abbrev pub invariant-loop : goal.invariant-loop
invariant-loop l =
    record {
      long : (l.count - l.counter) * 4 ≤ length l.rest;
      left : list_all (λ h. nat_lt h l.limit) (numbers l.count l.bytes) ≡ list_all (λ h. nat_lt h l.limit) (numbers (l.count - l.counter) l.rest);
    }
