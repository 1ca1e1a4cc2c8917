-- The epochs so far.
use Rattle.std.proofs.Common.{◌≡◌, map, take}
use Rattle.tk_run.specs.Ran.{set_on}
use Rattle.tk_run.proofs.turn_order.epochs_from.Given as goal

abbrev pub invariant-reading : goal.invariant-reading
invariant-reading l = l.epochs.items ≡ map (λ d. (set_on d).number) (take l.deed-index l.deeds)
