-- The turns so far were seen.
use Rattle.tk_privacy.specs.Views.{IsViewBefore}
use Rattle.tk_privacy.proofs.server_view.all_frames.Given as goal

abbrev pub invariant-turns : goal.invariant-turns
invariant-turns g l =
    IsViewBefore l.plan.script.now
    (g.D.Draws.book l.plan.draws.now) l.plan.history.now l.reads l.turn l.viewed
