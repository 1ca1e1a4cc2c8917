-- The turns so far were gone through.
use Rattle.tk_report.specs.Folds.{IsFoldBefore}
use Rattle.tk_report.proofs.fold.fold_all.Given as goal

abbrev pub invariant-turns : goal.invariant-turns
invariant-turns g l =
    IsFoldBefore l.plan.script.now
    (g.D.Draws.book l.plan.draws.now) l.plan.history.now l.turn l.fold
