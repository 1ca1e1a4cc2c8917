-- Events one after the other.
use Rattle.std.proofs.Common.{◌≡◌, refl, ap, sym, ◌∙◌, List, [], ◌∷◌, ◌++◌}
use Rattle.tk_shape.specs.declared.shape.Shape.{Shape}
use Rattle.tk_core.specs.declared.event.Event.{Event}
use Rattle.tk_core.specs.declared.reply.Reply.{Reply}
use Rattle.tk_core.specs.Machine.{Machine, world_step, stays, replies_of, machine_after}
use Rattle.tk_core.specs.World.{MayCome, MayAllCome}

pub after-append : (shape : Shape) (m : Machine) (xs ys : List Event) →
    machine_after shape m (xs ++ ys) ≡ machine_after shape (machine_after shape m xs) ys
unfolding machine_after
after-append shape m [] ys = refl
after-append shape m (x ∷ xs) ys = after-append shape (world_step shape m x).machine xs ys

pub replies-append : (shape : Shape) (m : Machine) (xs ys : List Event) →
    replies_of shape m (xs ++ ys) ≡ replies_of shape m xs ++ replies_of shape
    (machine_after shape m xs) ys
unfolding machine_after replies_of
replies-append shape m [] ys = refl
replies-append shape m (x ∷ xs) ys =
    ap (λ (rs : List Reply). (world_step shape m x).reply ∷ rs) (replies-append shape
    (world_step shape m x).machine xs ys)

-- an event after some others
pub after-push : (shape : Shape) (m next : Machine) (xs : List Event) (x : Event) (reply : Reply) →
    stays next reply ≡ world_step shape (machine_after shape m xs) x →
    machine_after shape m (xs ++ x ∷ []) ≡ next
unfolding machine_after
after-push shape m next xs x reply is =
    after-append shape m xs (x ∷ []) ∙ ap (λ s. s.machine) (sym is)

pub replies-push : (shape : Shape) (m next : Machine) (xs : List Event) (x : Event)
    (reply : Reply) →
    stays next reply ≡ world_step shape (machine_after shape m xs) x →
    replies_of shape m (xs ++ x ∷ []) ≡ replies_of shape m xs ++ reply ∷ []
unfolding replies_of
replies-push shape m next xs x reply is =
    replies-append shape m xs (x ∷ [])
    ∙ ap (λ (r : Reply). replies_of shape m xs ++ r ∷ []) (ap (λ s. s.reply) (sym is))

pub may-next : (shape : Shape) (m : Machine) (xs : List Event) (x : Event) (ys : List Event) →
    MayAllCome shape m (xs ++ x ∷ ys) → MayCome shape (machine_after shape m xs) x
unfolding machine_after MayAllCome
may-next shape m [] x ys may = may.0
may-next shape m (z ∷ xs) x ys may = may-next shape (world_step shape m z).machine xs x ys may.1
