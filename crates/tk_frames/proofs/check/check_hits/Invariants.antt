use Rattle.std.proofs.Common.{◌≡◌, ◌-◌, ◌*◌, ◌≤◌, length, map}
use Rattle.tk_frames.specs.Fields.{numbers}
use Rattle.tk_frames.specs.Faults.{first_fault, hit_check}
use Rattle.tk_frames.proofs.check.check_hits.Given as goal

abbrev pub invariant-loop : goal.invariant-loop
invariant-loop l =
    record {
      len : 4 * (l.count - l.counter) ≤ length l.rest;
      rest : first_fault (map (hit_check l.shape) (numbers l.count l.bytes)) ≡ first_fault (map (hit_check l.shape) (numbers (l.count - l.counter) l.rest));
    }
