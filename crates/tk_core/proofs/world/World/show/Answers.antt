-- The next epoch is shown once all have it.
use Rattle.std.proofs.Common.{◌∙◌, ◌+◌, ap, sym, subst, arith, List}
use Rattle.std.proofs.lemmas.List.{with_items_is}
use Rattle.tk_replica.specs.Replica.{ReplicaView}
use Rattle.tk_core.specs.declared.event.Event.TheVariants as events
use Rattle.tk_core.specs.declared.reply.Reply.TheVariants as replies
use Rattle.tk_core.specs.Machine.{stays, world_step}
use Rattle.tk_core.specs.World.{WorldView, world_with, machine_of, IsWorld, AreHolding, AreReleased}
use Rattle.tk_core.proofs.Worlds.{shown-fits}
use Rattle.tk_core.proofs.Released.{all-held, world-shown}
use Rattle.tk_core.proofs.Steps.{next-found, below-found, step-no_mark, step-not_yet, step-shown}
use Rattle.tk_core.proofs.world.World.show.Goals as goal

pub overflow_add-self-inside : goal.overflow_add-self-inside
overflow_add-self-inside c =
    let inside = c.self.inside in
    let old =
    world_with inside.shape inside.order.items inside.replicas.items inside.shown
    in
    let fits = shown-fits old c.self.invariant.0 in omega (arith, fits)

pub overflow_add-self : goal.overflow_add-self
overflow_add-self c =
    let inside = c.self.inside in
    let old =
    world_with inside.shape inside.order.items inside.replicas.items inside.shown
    in
    let fits = shown-fits old c.self.invariant.0 in omega (arith, fits)

pub returns-in_default-clause-step : goal.returns-in_default-clause-step
returns-in_default-clause-step c =
    let inside = c.self.inside in
    let old =
    world_with inside.shape inside.order.items inside.replicas.items inside.shown
    in
    let next =
    next-found old c.deref.result.now c.mark_position.result c.mark_position.ensures
    c.deref.ensures.value
    in
    let step = ap (λ (w : WorldView). world_step w.shape
    (machine_of w) events.Show) c.self.view_is in
    ap (λ (w : WorldView). stays (machine_of w) replies.NoMark) (sym c.self.view_is)
    ∙ step-no_mark old (sym next ∙ c.in_default.is) ∙ step

pub invariant_of-self : goal.invariant_of-self
invariant_of-self c =
    let inside = c.self.inside in
    let old =
    world_with inside.shape inside.order.items inside.replicas.items inside.shown
    in
    let at = c.in-Some.position in
    let next =
    next-found old c.deref.result.now c.mark_position.result c.mark_position.ensures
    c.deref.ensures.value
    in
    let first =
    below-found at c.deref-2.result.now old.replicas c.first_below.result c.first_below.ensures
    c.deref-2.ensures.value
    in
    let new = c.release_all.new.replicas in
    let released : AreReleased inside.shown old.replicas new =
    subst (λ (rs : List ReplicaView). AreReleased inside.shown rs new) c.deref_mut.ensures.value
    c.release_all.ensures
    in
    let items = with_items_is inside.replicas new (released.counted ∙ sym inside.replicas.ok.0) in (
      subst (λ (rs : List ReplicaView).
          IsWorld (world_with inside.shape inside.order.items rs (inside.shown + 1)))
          (sym items)
          (world-shown old at new c.self.invariant.0 (sym next ∙ c.in-Some.is)
          (sym first ∙ c.in-None.is) released),
      c.self.invariant.1,
    )

pub returns-in-Some-first_below-clause-step : goal.returns-in-Some-first_below-clause-step
returns-in-Some-first_below-clause-step c =
    let inside = c.self.inside in
    let old =
    world_with inside.shape inside.order.items inside.replicas.items inside.shown
    in
    let at = c.in-Some.position in
    let next =
    next-found old c.deref.result.now c.mark_position.result c.mark_position.ensures
    c.deref.ensures.value
    in
    let first =
    below-found at c.deref-2.result.now old.replicas c.first_below.result c.first_below.ensures
    c.deref-2.ensures.value
    in
    let j = c.in-Some-first_below.j in
    ap (λ (w : WorldView). stays (machine_of w) (replies.NotYet (j + 1) c.applied.result))
    (sym c.self.view_is)
    ∙ step-not_yet old at j c.applied.result c.index.result.now (sym next ∙ c.in-Some.is)
    (sym first ∙ c.in-Some-first_below.is) c.index.ensures c.applied.ensures
    ∙ ap (λ (w : WorldView). world_step w.shape (machine_of w) events.Show) c.self.view_is

pub returns-in-None-clause-step : goal.returns-in-None-clause-step
returns-in-None-clause-step c =
    let inside = c.self.inside in
    let old =
    world_with inside.shape inside.order.items inside.replicas.items inside.shown
    in
    let at = c.in-Some.position in
    let next =
    next-found old c.deref.result.now c.mark_position.result c.mark_position.ensures
    c.deref.ensures.value
    in
    let first =
    below-found at c.deref-2.result.now old.replicas c.first_below.result c.first_below.ensures
    c.deref-2.ensures.value
    in
    let new = c.release_all.new.replicas in
    let released : AreReleased inside.shown old.replicas new =
    subst (λ (rs : List ReplicaView). AreReleased inside.shown rs new) c.deref_mut.ensures.value
    c.release_all.ensures
    in
    let items = with_items_is inside.replicas new (released.counted ∙ sym inside.replicas.ok.0) in
    ap (λ (rs : List ReplicaView).
    stays (machine_of (world_with inside.shape inside.order.items rs (inside.shown + 1)))
    (replies.Shown (inside.shown + 1))) items
    ∙ step-shown old at new (sym next ∙ c.in-Some.is) (sym first ∙ c.in-None.is) released
    ∙ ap (λ (w : WorldView). world_step w.shape (machine_of w) events.Show) c.self.view_is

pub returns-in-None-clause-world : goal.returns-in-None-clause-world
returns-in-None-clause-world c = (invariant_of-self c).0

pub release_all-requires : goal.release_all-requires
release_all-requires c =
    let inside = c.self.inside in
    let old =
    world_with inside.shape inside.order.items inside.replicas.items inside.shown
    in
    subst (AreHolding inside.shown) (sym c.deref_mut.ensures.value)
    (all-held old c.self.invariant.0)
