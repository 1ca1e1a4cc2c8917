-- What is said in the phases so far is put down.
use Rattle.std.proofs.Common.{◌≡◌, ◌-◌, flat_map}
use Rattle.std.specs.List.{range_with_len}
use Rattle.tk_make.specs.Making.{said_in_phase}
use Rattle.tk_make.proofs.says.make_says.Given as goal

abbrev pub invariant-loop-phase : goal.invariant-loop-phase
invariant-loop-phase l =
    l.says.items ≡ flat_map (said_in_phase l.number) (range_with_len 1 (l.phase - 1))
