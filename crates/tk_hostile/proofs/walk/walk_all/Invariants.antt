-- The turns so far were gone through.
use Rattle.tk_hostile.specs.Given.{sums_at}
use Rattle.tk_hostile.specs.Walks.{IsWalkBefore}
use Rattle.tk_hostile.proofs.walk.walk_all.Given as goal

abbrev pub invariant-turns : goal.invariant-turns
invariant-turns g l =
    IsWalkBefore l.walk.plan.now.script.now (g.D.Draws.book l.walk.plan.now.draws.now)
    l.walk.plan.now.history.now l.walk.sides (sums_at l.walk.replies.now) l.turn l.fold
