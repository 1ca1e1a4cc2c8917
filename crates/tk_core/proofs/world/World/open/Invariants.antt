-- Each of the replicas so far is new.
use Rattle.std.proofs.Common.{◌≡◌, ◌<◌, ℕ, length}
use Rattle.std.specs.Prelude.{slice_index_or}
use Rattle.tk_replica.specs.Replica.{ReplicaView}
use Rattle.tk_core.proofs.Worlds.{IsNew}
use Rattle.tk_core.proofs.world.World.open.Given as goal

abbrev pub invariant-loop : goal.invariant-loop
invariant-loop l =
    record {
      counted : length l.replicas.items ≡ l.counter;
      new : (i : ℕ) (d : ReplicaView) → i < length l.replicas.items →
          IsNew l.shape (slice_index_or l.replicas.items i d);
    }
