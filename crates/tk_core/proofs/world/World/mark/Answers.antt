-- The mark stands after the others.
use Rattle.std.proofs.Common.{◌≡◌, ◌∙◌, ◌+◌, ◌<◌, ◌++◌, ◌∷◌, [], length, ap, sym, subst, arith}
use Rattle.tk_frames.specs.declared.entry.Placed.{Placed}
use Rattle.tk_frames.specs.declared.entry.Entry.TheVariants.{Mark}
use Rattle.tk_frames.specs.InOrder.{mark_count}
use Rattle.tk_frames.proofs.Offers.{marks-push}
use Rattle.tk_core.specs.declared.event.Event.TheVariants as events
use Rattle.tk_core.specs.Machine.{world_step}
use Rattle.tk_core.specs.World.{WorldView, world_with, machine_of, IsWorld}
use Rattle.tk_core.proofs.Worlds.{world-mark}
use Rattle.tk_core.proofs.Steps.{step-mark}
use Rattle.tk_core.proofs.world.World.mark.Goals as goal

pub invariant_of-self-2 : goal.invariant_of-self-2
invariant_of-self-2 c =
    let inside = c.self.inside in
    let old =
    world_with inside.shape inside.order.items inside.replicas.items inside.shown
    in
    let at : c.len.result + 1 ≡ length old.order + 1 = omega arith in
    let marks = c.self.invariant.1 in
    let number : inside.marks + 1 ≡ mark_count old.order + 1 = ap (λ n. n + 1) marks in
    let p : Placed = record {
      position = length old.order + 1;
      entry =
          Mark (mark_count old.order + 1);
    } in
    let order : c.push.new.self.items ≡ old.order ++ p ∷ [] =
    c.in_ok-push.ensures.items
    ∙ ap (λ n. old.order ++ record { position = n; entry = Mark (inside.marks + 1) } ∷ []) at
    ∙ ap (λ n. old.order ++ record { position = length old.order + 1; entry = Mark n } ∷ []) number
    in
    let may : mark_count old.order < old.shape.phases =
    subst (λ (w : WorldView). mark_count w.order < w.shape.phases) (sym c.self.view_is) c.requires
    in (
      subst (λ o. IsWorld (record old {
        order =
            o;
      })) (sym order) (world-mark old c.self.invariant.0 may),
      number ∙ omega (arith, marks-push old.order p) ∙ ap mark_count (sym order),
    )

pub returns-clause-step : goal.returns-clause-step
returns-clause-step c =
    let inside = c.self.inside in
    let old =
    world_with inside.shape inside.order.items inside.replicas.items inside.shown
    in
    let at : c.len.result + 1 ≡ length old.order + 1 = omega arith in
    let number : inside.marks + 1 ≡ mark_count old.order + 1 = ap (λ n. n + 1) c.self.invariant.1 in
    step-mark old (c.len.result + 1)
    (inside.marks + 1) c.push.new.self.items at number c.in_ok-push.ensures.items
    ∙ ap (λ (w : WorldView). world_step w.shape (machine_of w) events.Mark) c.self.view_is

pub returns-clause-world : goal.returns-clause-world
returns-clause-world c = (invariant_of-self-2 c).0
