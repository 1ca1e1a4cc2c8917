-- The seat stays as it was, and there are so many replicas.
use Rattle.std.proofs.Common.{◌≡◌, length}
use Rattle.tk_cluster.proofs.open.replicas_of.Given as goal

abbrev pub invariant-loop-made : goal.invariant-loop-made
invariant-loop-made g l =
    record { same : l.seat ≡ l.initial.seat; counted : length l.replicas.items ≡ l._made }
