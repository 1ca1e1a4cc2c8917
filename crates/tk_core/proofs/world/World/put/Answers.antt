-- The write stands after the others.
use Rattle.std.proofs.Common.{◌≡◌, ◌∙◌, ◌+◌, ◌++◌, ◌∷◌, [], length, ap, sym, subst, arith}
use Rattle.tk_frames.specs.declared.entry.Placed.{Placed}
use Rattle.tk_frames.specs.declared.entry.Entry.TheVariants.{Write}
use Rattle.tk_frames.specs.InOrder.{mark_count}
use Rattle.tk_frames.proofs.Offers.{marks-push}
use Rattle.tk_core.specs.declared.event.Event.TheVariants as events
use Rattle.tk_core.specs.Machine.{world_step}
use Rattle.tk_core.specs.World.{WorldView, world_with, machine_of, IsWorld, IsPut}
use Rattle.tk_core.proofs.Worlds.{world-put}
use Rattle.tk_core.proofs.Steps.{step-put}
use Rattle.tk_core.proofs.world.World.put.Goals as goal

pub invariant_of-self-2 : goal.invariant_of-self-2
invariant_of-self-2 c =
    let inside = c.self.inside in
    let old =
    world_with inside.shape inside.order.items inside.replicas.items inside.shown
    in
    let frame = c.args.frame in
    let at : c.len.result + 1 ≡ length old.order + 1 = omega arith in
    let p : Placed = record { position = length old.order + 1; entry = Write frame } in
    let order : c.push.new.self.items ≡ old.order ++ p ∷ [] =
    c.in_ok-push.ensures.items
    ∙ ap (λ n. old.order ++ record { position = n; entry = Write frame } ∷ []) at
    in
    let may : IsPut old.shape old.order frame =
    subst (λ (w : WorldView). IsPut w.shape w.order frame) (sym c.self.view_is) c.requires
    in
    let marks = c.self.invariant.1 in (
      subst (λ o. IsWorld (record old {
        order =
            o;
      })) (sym order) (world-put old frame c.self.invariant.0 may),
      marks ∙ omega (arith, marks-push old.order p) ∙ ap mark_count (sym order),
    )

pub returns-clause-step : goal.returns-clause-step
returns-clause-step c =
    let inside = c.self.inside in
    let old =
    world_with inside.shape inside.order.items inside.replicas.items inside.shown
    in
    let at : c.len.result + 1 ≡ length old.order + 1 = omega arith in
    step-put old c.args.frame (c.len.result + 1) c.push.new.self.items at c.in_ok-push.ensures.items
    ∙ ap (λ (w : WorldView). world_step w.shape (machine_of w)
    (events.Put c.args.frame)) c.self.view_is

pub returns-clause-world : goal.returns-clause-world
returns-clause-world c = (invariant_of-self-2 c).0
