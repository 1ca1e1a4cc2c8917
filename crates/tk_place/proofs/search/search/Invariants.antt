use Rattle.std.proofs.Common.{◌≡◌, length, ◌-◌}
use Rattle.tk_place.specs.Search.{AreFull, LeadToFull}
use Rattle.tk_place.proofs.Ends.{IsSearching}
use Rattle.tk_place.proofs.search.search.Given as goal

abbrev pub invariant-loop-place : goal.invariant-loop-place
invariant-loop-place g l =
    let T = g.V.Slots.others l.slots in
    let places = l.queue.places in
    (l.queue.buckets ≡ length T)
    × IsSearching T l.fn.new places l.place
    × AreFull T places 0 (length places)
    × LeadToFull T places 0 (length places)

abbrev pub decreases-loop-place : goal.decreases-loop-place
decreases-loop-place g l = length (g.V.Slots.others l.slots) - l.place
