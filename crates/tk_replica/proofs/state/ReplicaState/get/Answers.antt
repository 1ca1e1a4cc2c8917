-- An epoch lies as far after the first as its number is above that of the first.
use Rattle.std.proofs.Common.{◌≡◌, ◌-◌, subst}
use Rattle.std.specs.Arc.{arc_value}
use Rattle.tk_replica.specs.Replica.{ReplicaView, replica_with}
use Rattle.tk_replica.proofs.Standing.{kept-epoch, kept-shape}
use Rattle.tk_replica.proofs.state.ReplicaState.get.Goals as goal

pub returns-clause-same : goal.returns-clause-same
returns-clause-same c =
    let inside = c.self.inside in
    let epoch = arc_value c.get.result.now in
    subst (λ (s : ReplicaView). epoch.shape ≡ s.shape) c.self.view_is
    (kept-shape (replica_with inside.applied inside.store inside.shelf)
    (c.args.e - inside.shelf.floor) epoch c.self.invariant.epochs_same c.get.ensures.there
    c.get.ensures.at)

pub returns-clause-stands : goal.returns-clause-stands
returns-clause-stands c = λ shape E is.
    kept-epoch shape E c.args.self.now c.args.e (arc_value c.get.result.now) is
    c.requires.low c.requires.high (rw (← c.self.view_is) c.get.ensures.at)
