-- The numbers so far stand in front of those that are left.
use Rattle.std.proofs.Common.{◌≡◌, length}
use Rattle.tk_script.specs.Reading.{parts_of, numbers_spelled}
use Rattle.tk_script.proofs.TurnParts.{in_front}
use Rattle.tk_script.proofs.turn_line.epochs_in.Given as goal

abbrev pub invariant-epochs : goal.invariant-epochs
invariant-epochs l =
    numbers_spelled (parts_of l.text) ≡ in_front l.epochs.items (numbers_spelled (parts_of l.rest))

abbrev pub decreases-epochs : goal.decreases-epochs
decreases-epochs l = length l.rest
