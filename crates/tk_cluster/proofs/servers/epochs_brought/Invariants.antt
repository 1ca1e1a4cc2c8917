-- Each errand so far has brought an epoch.
use Rattle.std.proofs.Common.{◌≡◌, ℕ, List, All, length, IfOk}
use Rattle.std.specs.Arc.{arc_value}
use Rattle.tk_frames.specs.declared.entry.Placed.{Placed}
use Rattle.tk_replica.specs.Following.{IsEpochAt}
use Rattle.tk_cluster.proofs.servers.epochs_brought.Given as goal

abbrev pub invariant-loop-errand : goal.invariant-loop-errand
invariant-loop-errand g l =
    record {
      counted : length l.epochs.items ≡ length l.yielded;
      each : (E : List Placed) (upto : ℕ) →
          All (λ e. IfOk e.epoch (λ a. IsEpochAt g.B.Naming.shape E upto (arc_value a))) l.yielded →
          All (λ a. IsEpochAt g.B.Naming.shape E upto (arc_value a)) l.epochs.items;
    }
