-- The first epochs go, and with them their numbers; those that stay stand for what they stood for.
use Rattle.std.proofs.Common.{◌∙◌, ◌-◌, ap, sym, subst, drop}
use Rattle.tk_replica.specs.Shelf.{Shelved}
use Rattle.tk_replica.specs.Replica.{ReplicaView, StandsFor, replica_with}
use Rattle.tk_replica.proofs.KeptNumbers.{numbers-released}
use Rattle.tk_replica.proofs.Standing.{stands-released}
use Rattle.tk_replica.proofs.state.ReplicaState.release.Goals as goal

pub returns-clause-numbers : goal.returns-clause-numbers
returns-clause-numbers c =
    let inside = c.self.inside in
    let e = c.args.e in
    numbers-released _ _ e
    (ap (λ (s : Shelved). replica_with inside.applied inside.store s) c.release.ensures
    ∙ ap (λ (r : ReplicaView). record r { floor = e; kept = drop (e - r.floor) r.kept }) c.self.view_is)

pub returns-clause-stands : goal.returns-clause-stands
returns-clause-stands c = λ shape E is.
    let inside = c.self.inside in
    let e = c.args.e in
    subst (StandsFor shape E)
    (sym (ap (λ (s : Shelved). replica_with inside.applied inside.store s) c.release.ensures
    ∙ ap (λ (r : ReplicaView). record r { floor = e; kept = drop (e - r.floor) r.kept }) c.self.view_is))
    (stands-released shape E _ e is c.requires.low c.requires.high)
