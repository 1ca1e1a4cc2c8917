-- Where the last mark of an order stands, and what stands before it.
use Rattle.std.proofs.Common.{◌≡◌, ℕ, suc, ◌+◌, ◌≤◌, ◌<◌, List, [], ◌∷◌, ◌++◌, length, cond, true, false, refl, ap, sym, ◌∙◌, subst, arith, inl, inr, length-append}
use Rattle.std.specs.Prelude.{◌⊎◌}
use Rattle.tk_shape.specs.declared.shape.Shape.{Shape}
use Rattle.tk_frames.specs.declared.entry.Placed.{Placed}
use Rattle.tk_frames.specs.declared.entry.Entry.{Entry}
use Rattle.tk_frames.specs.declared.entry.Entry.TheVariants.{Write, Mark}
use Rattle.tk_frames.specs.Order.{records, before, is_mark_of}
use Rattle.tk_frames.specs.InOrder.{IsOrder, IsOrderFrom, IsNextAt, HasNumber, number_after, mark_count, mark_position}
use Rattle.tk_frames.proofs.Offers.{marks-mark, marks-write, order-front, order-rest, before-none, before-mark, records-mark}
use Rattle.tk_frames.proofs.Offers.{mark_position-mark, mark_position-more}
use Rattle.tk_replica.specs.Restoring.{EndsWithMark}

-- ---- a list that ends with one element

record EndsWith (E : List Placed) : Type 0 where
  front : List Placed
  last : Placed
  split : E ≡ front ++ last ∷ []

-- a list is empty or has a last element
ended : (E : List Placed) → (E ≡ []) ⊎ EndsWith E
ended [] = inl refl
ended (p ∷ E) = elim (ended E) [
  | inl none ↦ inr (record { front = []; last = p; split = ap (λ F. p ∷ F) none })
  | inr end ↦ inr (record { front = p ∷ end.front; last = end.last; split = ap (λ F. p ∷ F) end.split })
]

-- the entry behind others in an order
last-next : (shape : Shape) (front : List Placed) (last : Placed) → IsOrder shape (front ++ last ∷ []) →
    IsNextAt shape (length front + 1) (mark_count front + 1) last
last-next shape front last order = (order-rest shape front (last ∷ []) order).0

-- ---- where a mark stands at the latest

mark-place : (e place due : ℕ) (shape : Shape) (E : List Placed) → IsOrderFrom shape place due E →
    mark_position E e < place + length E ⊎ (mark_position E e ≡ 0)
mark-place e place due shape [] order = inr refl
mark-place e place due shape (p ∷ E) order =
    let here = (order.0).at in
    let rest = mark-place e (place + 1) (number_after due p.entry) shape E order.1 in
    elim (is_mark_of e p) as
    (λ b. (cond b p.position (mark_position E e) < place + suc (length E)) ⊎ (cond b p.position (mark_position E e) ≡ 0)) [
      | true ↦ inl (omega (arith, here))
      | false ↦ elim rest [
        | inl low ↦ inl (omega (arith, low))
        | inr none ↦ inr none
      ]
    ]

mark-within : (shape : Shape) (E : List Placed) (e : ℕ) → IsOrder shape E → mark_position E e ≤ length E
mark-within shape E e order = elim (mark-place e 1 1 shape E order) [
  | inl low ↦ omega (arith, low)
  | inr none ↦ omega (arith, none)
]

-- ---- a mark at the end

-- the last mark stands at the end, and all writes stand before it
pub record IsAtEnd (E : List Placed) : Type 0 where
  pub place : mark_position E (mark_count E) ≡ length E
  pub writes : before E (mark_count E) ≡ records E

at-mark : (shape : Shape) (front : List Placed) (last : Placed) (n : ℕ) → IsOrder shape (front ++ last ∷ []) →
    last.entry ≡ Mark n → IsAtEnd (front ++ last ∷ [])
at-mark shape front last n order at =
    let e = mark_count (front ++ last ∷ []) in
    let next = last-next shape front last order in
    let due : n ≡ mark_count front + 1 = subst (HasNumber (mark_count front + 1)) at next.number in
    let count : e ≡ mark_count front + 1 = marks-mark front last n at in
    let as_last : last.entry ≡ Mark e = at ∙ ap Mark (due ∙ sym count) in
    let before_it = order-front shape front (last ∷ []) order in
    record {
      place = mark_position-mark shape front last e before_it as_last count ∙ next.at
          ∙ sym (length-append front (last ∷ []));
      writes = before-mark shape front last e before_it as_last count ∙ sym (records-mark front last n at);
    }

pub at-end : (shape : Shape) (E : List Placed) → IsOrder shape E → EndsWithMark E → IsAtEnd E
at-end shape E order (inl none) =
    subst IsAtEnd (sym none) (record { place = refl; writes = before-none [] })
at-end shape E order (inr m) =
    subst IsAtEnd (sym m.split) (at-mark shape m.front m.last m.number (subst (IsOrder shape) m.split order) m.mark)

-- behind a write it stands before the end
before-write : (shape : Shape) (front : List Placed) (last : Placed) (x : Entry) →
    IsOrder shape (front ++ last ∷ []) → last.entry ≡ x →
    mark_position (front ++ last ∷ []) (mark_count (front ++ last ∷ [])) ≡ length (front ++ last ∷ []) →
    EndsWithMark (front ++ last ∷ [])
before-write shape front last (Mark n) order at place =
    inr (record { front = front; last = last; number = n; mark = at; split = refl })
before-write shape front last (Write w) order at place =
    let next = last-next shape front last order in
    let same = marks-write front last w at in
    let stays = ap (mark_position (front ++ last ∷ [])) same
    ∙ mark_position-more front last (mark_count front) next.number (omega arith) in
    let within = mark-within shape front (mark_count front) (order-front shape front (last ∷ []) order) in
    absurd (omega (arith, place, stays, within, length-append front (last ∷ [])))

pub ends-with_mark : (shape : Shape) (E : List Placed) → IsOrder shape E →
    mark_position E (mark_count E) ≡ length E → EndsWithMark E
ends-with_mark shape E order place = elim (ended E) [
  | inl none ↦ inl none
  | inr end ↦
      subst EndsWithMark (sym end.split)
      (before-write shape end.front end.last end.last.entry (subst (IsOrder shape) end.split order) refl
      (subst (λ F. mark_position F (mark_count F) ≡ length F) end.split place))
]
