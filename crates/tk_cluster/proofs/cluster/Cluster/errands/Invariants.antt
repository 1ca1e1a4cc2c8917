-- There is an errand for each replica so far, which knows what the seat has seen.
use Rattle.std.proofs.Common.{◌≡◌, All, length}
use Rattle.tk_cluster.proofs.cluster.Cluster.errands.Given as goal

abbrev pub invariant-loop-replica : goal.invariant-loop-replica
invariant-loop-replica g l =
    record {
      same : l.seat ≡ l.initial.seat;
      counted : length l.errands.items ≡ l._replica-index;
      each : All (λ e. e.seat.seen ≡ l.initial.seat.seen) l.errands.items;
    }
