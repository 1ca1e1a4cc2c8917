-- The first epoch is that of no writes.
use Rattle.std.proofs.Common.{◌∙◌, sym, subst, []}
use Rattle.std.specs.Arc.{arc_value}
use Rattle.tk_replica.specs.Shelf.{Shelved}
use Rattle.tk_replica.specs.Store.{Stored}
use Rattle.tk_replica.specs.Replica.{StandsFor, replica_with}
use Rattle.tk_replica.proofs.Standing.{stands-opened}
use Rattle.tk_replica.proofs.state.ReplicaState.open.Goals as goal

pub returns-clause-stands : goal.returns-clause-stands
returns-clause-stands c =
    let shape = c.args.shape.now in
    let store = c.in_ok-store.store in
    let same = c.store.view_is ∙ c.in_ok-first.ensures.kept in
    subst (λ (s : Stored). StandsFor shape [] (replica_with 0 s c.in_ok-open.field-0)) (sym same)
    (subst (λ (f : Shelved). StandsFor shape [] (replica_with 0 store f)) (sym c.in_ok-open.ensures)
    (stands-opened shape store (arc_value c.in_ok-first.first) c.in_ok-store.ensures
    c.in_ok-first.ensures.taken))
