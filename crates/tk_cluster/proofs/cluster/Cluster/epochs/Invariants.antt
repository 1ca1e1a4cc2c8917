-- There is an epoch for each replica so far, each of the same mark.
use Rattle.std.proofs.Common.{◌≡◌, All, length}
use Rattle.std.specs.Arc.{arc_value}
use Rattle.tk_replica.specs.Following.{IsEpochAt}
use Rattle.tk_cluster.proofs.cluster.Cluster.epochs.Given as goal

abbrev pub invariant-loop-replica : goal.invariant-loop-replica
invariant-loop-replica g l =
    record {
      same : l.seat ≡ l.initial.seat;
      counted : length l.epochs.items ≡ l.replica-index;
      each : All (λ a. IsEpochAt g.B.Naming.shape l.initial.seat.seen l.upto (arc_value a))
          l.epochs.items;
    }
