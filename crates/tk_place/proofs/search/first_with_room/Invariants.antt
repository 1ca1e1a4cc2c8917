use Rattle.std.proofs.Common.{◌≤◌, ◌-◌, length}
use Rattle.tk_place.specs.Search.{AreFull}
use Rattle.tk_place.proofs.search.first_with_room.Given as goal

abbrev pub invariant-loop-place : goal.invariant-loop-place
invariant-loop-place g l =
    (l.place ≤ length l.queue.places) × AreFull (g.V.Slots.others l.slots) l.queue.places 0 l.place

abbrev pub decreases-loop-place : goal.decreases-loop-place
decreases-loop-place g l = length l.queue.places - l.place
