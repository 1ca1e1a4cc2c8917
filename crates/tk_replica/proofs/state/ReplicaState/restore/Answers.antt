use Rattle.std.proofs.Common.{◌∙◌}
use Rattle.std.specs.Arc.{arc_value}
use Rattle.tk_replica.proofs.Restored.{parts-restored, replica-restored, stands-restored}
use Rattle.tk_replica.proofs.state.ReplicaState.restore.Goals as goal

pub invariant_of-result-2 : goal.invariant_of-result-2
invariant_of-result-2 c =
    replica-restored c.args.shape.now c.args.applied c.args.last c.args.table c.args.window _
    (parts-restored c.args.shape.now c.args.applied c.args.last c.args.table c.args.window
    c.of-store.result _ c.in_ok-open.field-0 (arc_value c.in_ok-epoch.epoch) c.of-store.ensures
    (c.store.view_is ∙ c.in_ok-epoch.ensures.kept) c.in_ok-open.ensures c.in_ok-epoch.ensures.taken)
    c.requires.latest

pub returns-clause-restored : goal.returns-clause-restored
returns-clause-restored c =
    parts-restored c.args.shape.now c.args.applied c.args.last c.args.table c.args.window
    c.of-store.result _ c.in_ok-open.field-0 (arc_value c.in_ok-epoch.epoch) c.of-store.ensures
    (c.store.view_is ∙ c.in_ok-epoch.ensures.kept) c.in_ok-open.ensures c.in_ok-epoch.ensures.taken

pub returns-clause-stands : goal.returns-clause-stands
returns-clause-stands c E left =
    stands-restored c.args.shape.now E c.args.applied c.args.last c.args.table c.args.window _
    c.requires.parts.table_same left
    (parts-restored c.args.shape.now c.args.applied c.args.last c.args.table c.args.window
    c.of-store.result _ c.in_ok-open.field-0 (arc_value c.in_ok-epoch.epoch) c.of-store.ensures
    (c.store.view_is ∙ c.in_ok-epoch.ensures.kept) c.in_ok-open.ensures c.in_ok-epoch.ensures.taken)
