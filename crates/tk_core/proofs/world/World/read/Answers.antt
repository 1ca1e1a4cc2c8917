-- The server's epoch has the blocks of the machine's.
use Rattle.std.proofs.Common.{◌∙◌, ◌-◌, ap, sym, arith}
use Rattle.tk_core.specs.declared.event.Event.TheVariants as events
use Rattle.tk_core.specs.declared.reply.Reply.TheVariants as replies
use Rattle.tk_core.specs.Machine.{stays, world_step}
use Rattle.tk_core.specs.World.{WorldView, world_with, machine_of}
use Rattle.tk_core.proofs.Steps.{server-there, shown-held, shown-blocks, step-read}
use Rattle.tk_core.proofs.world.World.read.Goals as goal

pub epoch-epoch-requires-clause-low : goal.epoch-epoch-requires-clause-low
epoch-epoch-requires-clause-low c =
    let inside = c.self.inside in
    let old =
    world_with inside.shape inside.order.items inside.replicas.items inside.shown
    in
    let is = c.self.invariant.0 in
    let low =
    server-there old c.args.self.now c.args.server c.self.view_is is c.requires.server_in
    in
    (shown-held old (c.args.server - 1) c.index.result.now is low c.index.ensures).low

pub epoch-epoch-requires-clause-high : goal.epoch-epoch-requires-clause-high
epoch-epoch-requires-clause-high c =
    let inside = c.self.inside in
    let old =
    world_with inside.shape inside.order.items inside.replicas.items inside.shown
    in
    let is = c.self.invariant.0 in
    let low =
    server-there old c.args.self.now c.args.server c.self.view_is is c.requires.server_in
    in
    (shown-held old (c.args.server - 1) c.index.result.now is low c.index.ensures).high

pub block-requires : goal.block-requires
block-requires c =
    let inside = c.self.inside in
    let old =
    world_with inside.shape inside.order.items inside.replicas.items inside.shown
    in
    let is = c.self.invariant.0 in
    let low =
    server-there old c.args.self.now c.args.server c.self.view_is is c.requires.server_in
    in
    let in_range = c.requires.first_in in
    let whole =
    shown-blocks old (c.args.server - 1) c.index.result.now c.epoch-epoch.result.now is low
    c.index.ensures c.epoch-epoch.ensures.same
    in
    omega (arith, in_range, whole, ap (λ (w : WorldView). w.shape.buckets) c.self.view_is)

pub block-requires-2 : goal.block-requires-2
block-requires-2 c =
    let inside = c.self.inside in
    let old =
    world_with inside.shape inside.order.items inside.replicas.items inside.shown
    in
    let is = c.self.invariant.0 in
    let low =
    server-there old c.args.self.now c.args.server c.self.view_is is c.requires.server_in
    in
    let in_range = c.requires.second_in in
    let whole =
    shown-blocks old (c.args.server - 1) c.index.result.now c.epoch-epoch.result.now is low
    c.index.ensures c.epoch-epoch.ensures.same
    in
    omega (arith, in_range, whole, ap (λ (w : WorldView). w.shape.buckets) c.self.view_is)

pub returns-clause-step : goal.returns-clause-step
returns-clause-step c =
    let inside = c.self.inside in
    let old =
    world_with inside.shape inside.order.items inside.replicas.items inside.shown
    in
    let replica = c.index.result.now in
    let is = c.self.invariant.0 in
    let low =
    server-there old c.args.self.now c.args.server c.self.view_is is c.requires.server_in
    in
    let x = c.in_ok-block.field-0 in
    let y = c.in_ok-block-2.field-0 in
    ap (λ (w : WorldView). stays (machine_of w) (replies.Blocks inside.shown x y))
    (sym c.self.view_is)
    ∙ step-read old c.args.server c.args.first c.args.second replica c.epoch-epoch.result.now x y
    is low
    c.index.ensures c.epoch-epoch.ensures.stands c.in_ok-block.ensures c.in_ok-block-2.ensures
    ∙ ap (λ (w : WorldView). world_step w.shape (machine_of w)
    (events.Read c.args.server c.args.first c.args.second)) c.self.view_is
