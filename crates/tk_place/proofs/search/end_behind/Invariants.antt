use Rattle.std.proofs.Common.{◌≡◌, ℕ, ◌<◌, ◌≤◌, ◌-◌, true}
use Rattle.tk_place.specs.Table.{slot_at, is_other_full}
use Rattle.tk_place.specs.Views.{place_at}
use Rattle.tk_place.proofs.search.end_behind.Given as goal

abbrev pub invariant-loop-slot : goal.invariant-loop-slot
invariant-loop-slot g l =
    let T = g.V.Slots.others l.slots in
    let from = place_at l.fn.queue.places l.place in
    (l.queue.buckets ≡ l.fn.queue.buckets)
    × (l.queue.places ≡ l.fn.queue.places)
    × (l.slot ≤ l.depth)
    × ((i : ℕ) → i < l.slot → is_other_full T (slot_at T from.bucket i) ≡ true)

abbrev pub decreases-loop-slot : goal.decreases-loop-slot
decreases-loop-slot g l = l.depth - l.slot
