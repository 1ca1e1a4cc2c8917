-- The next entry is the one after those that the server has applied.
use Rattle.std.proofs.Common.{◌∙◌, ◌-◌, ap, arith}
use Rattle.tk_core.specs.declared.event.Event.TheVariants as events
use Rattle.tk_core.specs.Machine.{world_step}
use Rattle.tk_core.specs.World.{WorldView, world_with, machine_of}
use Rattle.tk_core.proofs.Steps.{server-there, step-up_to_date, step-applied, may-apply, world-next}
use Rattle.tk_core.proofs.world.World.apply.Goals as goal

pub returns-then-applied-len-clause-step : goal.returns-then-applied-len-clause-step
returns-then-applied-len-clause-step c =
    let inside = c.self.inside in
    let old =
    world_with inside.shape inside.order.items inside.replicas.items inside.shown
    in
    let replica = c.index_mut-replica.result.now in
    let n = c.applied-applied.result in
    let is = c.self.invariant.0 in
    let low =
    server-there old c.args.self.now c.args.server c.self.view_is is c.requires
    in
    step-up_to_date old c.args.server n replica low c.index_mut-replica.ensures.value
    c.applied-applied.ensures
    (omega arith)
    ∙ ap (λ (w : WorldView). world_step w.shape (machine_of w)
    (events.Apply c.args.server)) c.self.view_is

pub apply-requires : goal.apply-requires
apply-requires c =
    let inside = c.self.inside in
    let old =
    world_with inside.shape inside.order.items inside.replicas.items inside.shown
    in
    let replica = c.index_mut-replica.result.now in
    let n = c.applied-applied.result in
    let is = c.self.invariant.0 in
    let low =
    server-there old c.args.self.now c.args.server c.self.view_is is c.requires
    in
    may-apply old
    (c.args.server - 1) n replica c.index.result.now is low c.index_mut-replica.ensures.value
    c.applied-applied.ensures (omega arith) c.index.ensures

pub invariant_of-self-2 : goal.invariant_of-self-2
invariant_of-self-2 c =
    let inside = c.self.inside in
    let old =
    world_with inside.shape inside.order.items inside.replicas.items inside.shown
    in
    let replica = c.index_mut-replica.result.now in
    let n = c.applied-applied.result in
    let is = c.self.invariant.0 in
    let low =
    server-there old c.args.self.now c.args.server c.self.view_is is c.requires
    in (
      (world-next old (c.args.server - 1) n replica c.apply.new.self c.index.result.now is low
          c.index_mut-replica.ensures.value c.applied-applied.ensures (omega arith) c.index.ensures
          c.in_ok-apply.ensures.stands c.in_ok-apply.ensures.floor).1,
      c.self.invariant.1,
    )

pub returns-clause-step : goal.returns-clause-step
returns-clause-step c =
    let inside = c.self.inside in
    let old =
    world_with inside.shape inside.order.items inside.replicas.items inside.shown
    in
    let replica = c.index_mut-replica.result.now in
    let n = c.applied-applied.result in
    let is = c.self.invariant.0 in
    let low =
    server-there old c.args.self.now c.args.server c.self.view_is is c.requires
    in
    let next =
    (world-next old (c.args.server - 1) n replica c.apply.new.self c.index.result.now is low
    c.index_mut-replica.ensures.value c.applied-applied.ensures (omega arith) c.index.ensures
    c.in_ok-apply.ensures.stands c.in_ok-apply.ensures.floor).0
    in
    step-applied old c.args.server n replica c.apply.new.self low c.index_mut-replica.ensures.value
    c.applied-applied.ensures (omega arith) next
    ∙ ap (λ (w : WorldView). world_step w.shape (machine_of w)
    (events.Apply c.args.server)) c.self.view_is

pub returns-clause-world : goal.returns-clause-world
returns-clause-world c = (invariant_of-self-2 c).0
