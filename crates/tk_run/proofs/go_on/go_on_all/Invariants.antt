-- The servers so far have begun anew, and the others not.
use Rattle.tk_run.proofs.ResumingLaws.{GoneOnUpTo}
use Rattle.tk_run.proofs.go_on.go_on_all.Given as goal

abbrev pub invariant-beginning : goal.invariant-beginning
invariant-beginning g l = GoneOnUpTo l.shape (g.K.Keeper.gives l.keeper) l.i l.fn.servers l.servers
