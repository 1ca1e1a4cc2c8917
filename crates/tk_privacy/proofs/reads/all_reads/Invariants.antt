-- The turns so far were gone through.
use Rattle.tk_privacy.specs.Reads.{IsFollowedBefore}
use Rattle.tk_privacy.proofs.reads.all_reads.Given as goal

abbrev pub invariant-turns : goal.invariant-turns
invariant-turns g l =
    IsFollowedBefore l.plan.script.now
    (g.D.Draws.book l.plan.draws.now) l.plan.history.now l.server l.turn l.fold
