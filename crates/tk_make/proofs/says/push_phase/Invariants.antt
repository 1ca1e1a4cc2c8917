-- What is said in the ticks so far stands after what was there.
use Rattle.std.proofs.Common.{◌≡◌, ◌++◌, ◌-◌, flat_map}
use Rattle.std.specs.List.{range_with_len}
use Rattle.tk_make.specs.Making.{said_in_tick}
use Rattle.tk_make.proofs.says.push_phase.Given as goal

abbrev pub invariant-loop-tick : goal.invariant-loop-tick
invariant-loop-tick l =
    l.says.items
    ≡ l.fn.says.items ++ flat_map (said_in_tick l.number l.phase) (range_with_len 1 (l.tick - 1))
