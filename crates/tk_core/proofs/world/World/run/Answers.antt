-- Each event comes after those before it.
use Rattle.std.proofs.Common.{◌≡◌, ◌∙◌, ap, ap₂, sym, subst, refl, List, [], ◌∷◌, ◌++◌, append_assoc}
use Rattle.tk_shape.specs.declared.shape.Shape.{Shape}
use Rattle.tk_core.specs.declared.event.Event.{Event}
use Rattle.tk_core.specs.declared.reply.Reply.{Reply}
use Rattle.tk_core.specs.Machine.{Machine, stays, world_step, replies_of, machine_after}
use Rattle.tk_core.specs.World.{machine_of, IsWorld, MayCome, MayAllCome}
use Rattle.tk_core.proofs.Lists.{after-push, replies-push, may-next}
use Rattle.tk_core.proofs.world.World.run.Goals as goal

pub loop-event-init : goal.loop-event-init
unfolding machine_after replies_of
loop-event-init c =
    record {
      whole = sym c.into_iter-event-iterator.ensures.into_iter_gives.0;
      shape = refl;
      machine = refl;
      replies = c.new-replies.ensures.items;
      world = subst IsWorld c.self.view_is c.self.invariant.0;
    }

pub step-requires : goal.step-requires
step-requires c =
    let so_far = c.loop-event.invariant in
    let old = c.args.self.now in
    let event = c.in-Some.event in
    let popped = c.in-Some.ensures.steps in
    let split : c.args.events.items ≡ c.loop-event.yielded ++ event ∷ c.next.new.self.rest.items =
    so_far.whole ∙ ap (λ (xs : List Event). c.loop-event.yielded ++ xs) popped.0
    in
    let may =
    may-next old.shape (machine_of old) c.loop-event.yielded event c.next.new.self.rest.items
    (subst (MayAllCome old.shape (machine_of old)) split c.requires)
    in
    subst (λ (shape : Shape). MayCome shape (machine_of c.loop-event.self) event) (sym so_far.shape)
    (subst (λ (m : Machine). MayCome old.shape m event) (sym so_far.machine) may)

pub loop-event-preserved : goal.loop-event-preserved
loop-event-preserved c =
    let so_far = c.loop-event.invariant in
    let old = c.args.self.now in
    let event = c.in-Some.event in
    let yielded = c.loop-event.yielded in
    let left = c.next.new.self.rest.items in
    let popped = c.in-Some.ensures.steps in
    let step : stays (machine_of c.step.new.self) c.in_ok-reply.reply
    ≡ world_step old.shape (machine_after old.shape (machine_of old) yielded) event =
    c.in_ok-reply.ensures.step
    ∙ ap₂ (λ (shape : Shape) (m : Machine). world_step shape m event) so_far.shape so_far.machine
    in
    record {
      whole =
          so_far.whole ∙ ap (λ (xs : List Event). yielded ++ xs) popped.0
          ∙ sym (append_assoc yielded (event ∷ []) left);
      shape = c.in_ok-reply.ensures.shape ∙ so_far.shape;
      machine = sym (after-push old.shape (machine_of old)
          (machine_of c.step.new.self) yielded event c.in_ok-reply.reply step);
      replies =
          c.in_ok-push.ensures.items
          ∙ ap (λ (rs : List Reply). rs ++ c.in_ok-reply.reply ∷ []) so_far.replies
          ∙ sym (replies-push old.shape (machine_of old)
          (machine_of c.step.new.self) yielded event c.in_ok-reply.reply step);
      world = c.in_ok-reply.ensures.world;
    }
