-- The items so far stand in front of those that are left.
use Rattle.std.proofs.Common.{◌≡◌, length}
use Rattle.tk_script.specs.Reading.{parts_of, items_spelled}
use Rattle.tk_script.proofs.TurnParts.{in_front}
use Rattle.tk_script.proofs.turn_line.items_in.Given as goal

abbrev pub invariant-items : goal.invariant-items
invariant-items l =
    items_spelled (parts_of l.text) ≡ in_front l.items.items (items_spelled (parts_of l.rest))

abbrev pub decreases-items : goal.decreases-items
decreases-items l = length l.rest
