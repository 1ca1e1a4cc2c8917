-- One replica after the other.
use Rattle.std.proofs.Common.{arith}
use Rattle.tk_core.proofs.Released.{released-none, released-next, item-held, released-all}
use Rattle.tk_core.proofs.replicas.release_all.Goals as goal

pub loop-replica-init : goal.loop-replica-init
loop-replica-init c = released-none c.args.e c.args.replicas.now

pub release-requires-clause-low : goal.release-requires-clause-low
release-requires-clause-low c =
    (item-held c.args.e c.loop-replica.replica-index c.args.replicas.now c.loop-replica.replicas
    c.replica-item.result c.requires c.loop-replica-test.true c.loop-replica.invariant).low

pub release-requires-clause-high : goal.release-requires-clause-high
release-requires-clause-high c =
    (item-held c.args.e c.loop-replica.replica-index c.args.replicas.now c.loop-replica.replicas
    c.replica-item.result c.requires c.loop-replica-test.true c.loop-replica.invariant).high

pub loop-replica-preserved : goal.loop-replica-preserved
loop-replica-preserved c =
    released-next c.args.e c.loop-replica.replica-index c.args.replicas.now c.loop-replica.replicas
    c.release.new.self c.replica-item.result c.loop-replica-test.true c.release.ensures.kept
    c.loop-replica.invariant

pub returns : goal.returns
returns c =
    released-all c.args.e c.loop-replica.replica-index c.args.replicas.now c.loop-replica.replicas
    (omega (arith, c.loop-replica-test.false)) c.loop-replica.invariant
