-- The replicas so far are released, and the others are as they were.
use Rattle.tk_core.proofs.Released.{ReleasedUpTo}
use Rattle.tk_core.proofs.replicas.release_all.Given as goal

abbrev pub invariant-loop-replica : goal.invariant-loop-replica
invariant-loop-replica l = ReleasedUpTo l.e l.replica-index l.fn.replicas l.replicas
