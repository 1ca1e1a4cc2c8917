-- The new epoch stands after the others.
use Rattle.std.proofs.Common.{◌≡◌, ap₂, subst, [], ◌∷◌, ◌++◌}
use Rattle.std.specs.Arc.{arc_value}
use Rattle.tk_replica.specs.declared.epoch.Epoch.{Epoch}
use Rattle.tk_replica.specs.Store.{IsTaken}
use Rattle.tk_replica.specs.Replica.{ReplicaView, replica_with}
use Rattle.tk_replica.proofs.state.ReplicaState.mark.Goals as goal

pub returns-clause-epoch : goal.returns-clause-epoch
returns-clause-epoch c =
    let position = c.args.position in
    let number = c.args.number in
    subst (λ (s : ReplicaView). (x : Epoch)
    × IsTaken s.shape number position s.table s.window x
    × (replica_with position c.epoch.new.self c.push.new.self
    ≡ record s { applied = position; last = number; kept = s.kept ++ x ∷ [] })) c.self.view_is (
      arc_value c.in_ok-epoch.epoch,
      c.in_ok-epoch.ensures.taken,
      ap₂ (replica_with position) c.in_ok-epoch.ensures.kept c.in_ok-push.ensures.pushed,
    )
