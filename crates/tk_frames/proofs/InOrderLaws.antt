-- Entries in order.
use Rattle.std.proofs.Common.{◌≡◌, ℕ, zero, suc, ◌+◌, ◌<◌, sym, ◌∙◌, subst, arith, List, [], ◌∷◌, ◌++◌, length, take}
use Rattle.std.specs.Prelude.{slice_index_or}
use Rattle.tk_shape.specs.declared.shape.Shape.{Shape}
use Rattle.tk_frames.specs.declared.entry.Placed.{Placed}
use Rattle.tk_frames.specs.InOrder.{mark_count, HasNumber, number_after, IsNextAt, IsOrderFrom, IsOrder, IsNext}
use Rattle.tk_frames.proofs.MarkCounts.{due-next}

pub order-none : (shape : Shape) → IsOrder shape []
order-none shape = tt

-- ---- one more, and a front

moved : (shape : Shape) (a b m n : ℕ) (p : Placed) → a ≡ b → m ≡ n →
    IsNextAt shape a m p → IsNextAt shape b n p
moved shape a b m n p place number next =
    record {
      at = next.at ∙ place;
      in_range = next.in_range;
      number = subst (λ k. HasNumber k p.entry) number next.number;
    }

pub from-push : (shape : Shape) (place due : ℕ) (E : List Placed) (p : Placed) →
    IsOrderFrom shape place due E →
    IsNextAt shape (place + length E) (due + mark_count E) p →
    IsOrderFrom shape place due (E ++ p ∷ [])
from-push shape place due [] p order next =
    (moved shape (place + 0) place (due + 0) due p (omega arith) (omega arith) next, tt)
from-push shape place due (x ∷ E) p order next = (
  order.0,
  from-push shape (place + 1) (number_after due x.entry) E p order.1
      (moved shape (place + suc (length E)) (place + 1 + length E)
      (due + mark_count (x ∷ E)) (number_after due x.entry + mark_count E) p
      (omega arith) (sym (due-next due x E)) next),
)

pub order-push : (shape : Shape) (E : List Placed) (p : Placed) →
    IsOrder shape E → IsNext shape E p → IsOrder shape (E ++ p ∷ [])
order-push shape E p order next =
    from-push shape 1 1 E p order
    (moved shape (length E + 1) (1 + length E) (mark_count E + 1) (1 + mark_count E) p
    (omega arith) (omega arith) next)

pub from-front : (shape : Shape) (place due : ℕ) (E F : List Placed) →
    IsOrderFrom shape place due (E ++ F) → IsOrderFrom shape place due E
from-front shape place due [] F order = tt
from-front shape place due (p ∷ E) F order =
    (order.0, from-front shape (place + 1) (number_after due p.entry) E F order.1)

pub order-front : (shape : Shape) (E F : List Placed) → IsOrder shape (E ++ F) → IsOrder shape E
order-front shape E F order = from-front shape 1 1 E F order

-- ---- what counts on after

from-rest : (shape : Shape) (place due : ℕ) (E F : List Placed) →
    IsOrderFrom shape place due (E ++ F) →
    IsOrderFrom shape (place + length E) (due + mark_count E) F
from-rest shape place due [] F order =
    let here : place ≡ place + 0 = omega arith in
    let none : due ≡ due + 0 = omega arith in
    subst (λ n. IsOrderFrom shape n (due + 0) F) here
    (subst (λ k. IsOrderFrom shape place k F) none order)
from-rest shape place due (p ∷ E) F order =
    let on : place + 1 + length E ≡ place + suc (length E) = omega arith in
    subst (λ n. IsOrderFrom shape n (due + mark_count (p ∷ E)) F) on
    (subst (λ k. IsOrderFrom shape (place + 1 + length E) k F) (due-next due p E)
    (from-rest shape (place + 1) (number_after due p.entry) E F order.1))

pub order-rest : (shape : Shape) (E F : List Placed) → IsOrder shape (E ++ F) →
    IsOrderFrom shape (length E + 1) (mark_count E + 1) F
order-rest shape E F order =
    let on : 1 + length E ≡ length E + 1 = omega arith in
    let due : 1 + mark_count E ≡ mark_count E + 1 = omega arith in
    subst (λ n. IsOrderFrom shape n (mark_count E + 1) F) on
    (subst (λ k. IsOrderFrom shape (1 + length E) k F) due (from-rest shape 1 1 E F order))

-- ---- each entry

pub from-entry : (shape : Shape) (place due : ℕ) (E : List Placed) (i : ℕ) (d : Placed) →
    IsOrderFrom shape place due E → i < length E →
    IsNextAt shape (place + i) (due + mark_count (take i E)) (slice_index_or E i d)
from-entry shape place due [] i d order low = absurd (omega (arith, low))
from-entry shape place due (p ∷ E) zero d order low =
    moved shape place (place + 0) due (due + 0) p (omega arith) (omega arith) order.0
from-entry shape place due (p ∷ E) (suc i) d order low =
    moved shape (place + 1 + i) (place + suc i)
    (number_after due p.entry + mark_count (take i E)) (due + mark_count (p ∷ take i E))
    (slice_index_or E i d) (omega arith) (due-next due p (take i E))
    (from-entry shape (place + 1) (number_after due p.entry) E i d order.1 (omega (arith, low)))

-- entry i is next after the first i
pub order-entry : (shape : Shape) (E : List Placed) (i : ℕ) (d : Placed) →
    IsOrder shape E → i < length E →
    IsNextAt shape (i + 1) (mark_count (take i E) + 1) (slice_index_or E i d)
order-entry shape E i d order low =
    moved shape (1 + i) (i + 1) (1 + mark_count (take i E)) (mark_count (take i E) + 1)
    (slice_index_or E i d) (omega arith) (omega arith) (from-entry shape 1 1 E i d order low)

-- ---- each write
