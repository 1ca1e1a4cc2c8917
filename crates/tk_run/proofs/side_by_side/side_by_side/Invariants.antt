-- The best so far is one of those that were tried.
use Rattle.std.proofs.Common.{◌≤◌}
use Rattle.tk_run.proofs.side_by_side.side_by_side.Given as goal

abbrev pub invariant-sides : goal.invariant-sides
invariant-sides l = (1 ≤ l.best) × (l.best ≤ l.crew.workers)
