use Rattle.std.proofs.Common.{◌≤◌, ◌-◌, length}
use Rattle.tk_place.specs.Search.{LeadToFull}
use Rattle.tk_place.proofs.search.first_leading.Given as goal

abbrev pub invariant-loop-place : goal.invariant-loop-place
invariant-loop-place g l =
    (l.from ≤ l.place) × (l.place ≤ length l.queue.places)
    × LeadToFull (g.V.Slots.others l.slots) l.queue.places l.from l.place

abbrev pub decreases-loop-place : goal.decreases-loop-place
decreases-loop-place g l = length l.queue.places - l.place
