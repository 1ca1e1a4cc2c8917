-- One pass less is left each time.
use Rattle.std.proofs.Common.{length}
use Rattle.tk_run.proofs.actors.+learn_all.Given as goal

abbrev pub decreases-learn_all : goal.decreases-learn_all
decreases-learn_all g l = length l.passes.now
