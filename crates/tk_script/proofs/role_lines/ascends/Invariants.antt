-- What is left ascends exactly where all do.
use Rattle.std.proofs.Common.{◌≡◌, length}
use Rattle.tk_script.specs.SoundScript.{is_ascending}
use Rattle.tk_script.proofs.role_lines.ascends.Given as goal

abbrev pub invariant-pairs : goal.invariant-pairs
invariant-pairs l = is_ascending l.fn.numbers ≡ is_ascending l.rest

abbrev pub decreases-pairs : goal.decreases-pairs
decreases-pairs l = length l.rest
