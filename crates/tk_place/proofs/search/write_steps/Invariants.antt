use Rattle.tk_place.proofs.Walks.{IsWalking}
use Rattle.tk_place.proofs.search.write_steps.Given as goal

abbrev pub invariant-loop-link : goal.invariant-loop-link
invariant-loop-link l =
    IsWalking l.queue.places l.fn.end l.steps l.place l.slot l.count

abbrev pub decreases-loop-link : goal.decreases-loop-link
decreases-loop-link l = l.place
