-- Two orders with the same writes of each client, and as many marks, are one.
use Rattle.std.proofs.Common.{◌≡◌, ◌≢◌, inl, inr, ℕ, ◌+◌, ◌-◌, ◌<◌, ◌≤◌, List, [], ◌∷◌, length}
use Rattle.std.proofs.Common.{refl, ap, ap₂, sym, ◌∙◌, subst, arith}
use Rattle.std.proofs.lemmas.Bool.{cases_lt}
use mathlib.Core.Logic.{dite}
use native.Mathlib.Decide.{ℕ_discrete}
use Rattle.tk_shape.specs.declared.shape.Shape.{Shape}
use Rattle.tk_frames.specs.declared.entry.Placed.{Placed}
use Rattle.tk_frames.specs.declared.entry.Entry.{Entry}
use Rattle.tk_frames.specs.declared.entry.Entry.TheVariants.{Write, Mark}
use Rattle.tk_frames.specs.InOrder.{HasNumber, number_after, IsNextAt, IsOrderFrom, IsOrder, mark_count}
use Rattle.tk_order.specs.Legality.{number_of, seat_of, of}
use Rattle.tk_order.proofs.Offers.{marks_under_zero, of_here, of_other, number_low}

-- what stands under a number stands at a place of the order
of-place : (shape : Shape) (place due n : ℕ) (E rest : List Placed) (p : Placed) →
    IsOrderFrom shape place due E → of n E ≡ p ∷ rest → place ≤ p.position
of-place shape place due n [] rest p order first = cc
of-place shape place due n (q ∷ E) rest p order first = dite (ℕ_discrete (seat_of q) n)
    (λ is.
    let same : q ≡ p = let e = sym (of_here n q E is) ∙ first in cc in
    omega (arith, order.0.at, ap (λ (x : Placed). x.position) same))
    (λ isnt.
    let later : place + 1 ≤ p.position =
    of-place shape (place + 1) (number_after due q.entry) n E rest p order.1
    (sym (of_other n q E isnt) ∙ first)
    in
    omega (arith, later))

-- ---- the first entries of both

mark-is : (due : ℕ) (x : Entry) → number_of x ≡ 0 → HasNumber due x → x ≡ Mark due
mark-is due (Write w) seat has = absurd (omega (arith, seat))
mark-is due (Mark e) seat has = ap Mark has

-- two marks at one place
one-mark : (shape : Shape) (place due : ℕ) (p q : Placed) → IsNextAt shape place due p →
    IsNextAt shape place due q → seat_of p ≡ 0 → seat_of q ≡ 0 → q ≡ p
one-mark shape place due p q first second mark other =
    let at : q.position ≡ p.position = second.at ∙ sym first.at in
    let entry : q.entry ≡ p.entry =
    mark-is due q.entry other second.number ∙ sym (mark-is due p.entry mark first.number)
    in
    λ i. record { position = at i; entry = entry i }

-- what comes first under a client's number in one order, but not in the other, comes later there
never : (shape : Shape) (place due : ℕ) (p q : Placed) (A B : List Placed) →
    IsNextAt shape place due p → IsOrderFrom shape place due (q ∷ B) → seat_of q ≢ seat_of p →
    of (seat_of p) (p ∷ A) ≡ of (seat_of p) (q ∷ B) → ⊥
never shape place due p q A B first second isnt same =
    let e = sym (of_other (seat_of p) q B isnt) ∙ sym same ∙ of_here (seat_of p) p A refl in
    let later : place + 1 ≤ p.position =
    of-place shape (place + 1) (number_after due q.entry) (seat_of p) B (of (seat_of p) A) p second.1 e
    in
    omega (arith, later, first.at)

one-first : (shape : Shape) (place due : ℕ) (p q : Placed) (A B : List Placed) →
    IsOrderFrom shape place due (p ∷ A) → IsOrderFrom shape place due (q ∷ B) →
    ((n : ℕ) → 0 < n → of n (p ∷ A) ≡ of n (q ∷ B)) → q ≡ p
one-first shape place due p q A B first second same = dite (ℕ_discrete (seat_of q) (seat_of p))
    (λ is. dite (ℕ_discrete (seat_of p) 0)
    (λ mark. one-mark shape place due p q first.0 second.0 mark (is ∙ mark))
    (λ write.
    let e =
    sym (of_here (seat_of p) p A refl) ∙ same (seat_of p) (omega (arith, write))
    ∙ of_here (seat_of p) q B is
    in
    cc))
    (λ isnt. dite (ℕ_discrete (seat_of p) 0)
    (λ mark.
    absurd (never shape place due q p B A second.0 first (λ e. isnt (sym e))
    (sym (same (seat_of q) (omega (arith, mark, isnt))))))
    (λ write.
    absurd (never shape place due p q A B first.0 second isnt
    (same (seat_of p) (omega (arith, write))))))

-- ---- all others

one-rest : (p : Placed) (A B : List Placed) (n : ℕ) → of n (p ∷ A) ≡ of n (p ∷ B) → of n A ≡ of n B
one-rest p A B n same = dite (ℕ_discrete (seat_of p) n)
    (λ is. let e = sym (of_here n p A is) ∙ same ∙ of_here n p B is in cc)
    (λ isnt. sym (of_other n p A isnt) ∙ same ∙ of_other n p B isnt)

count-rest : (p : Placed) (A B : List Placed) → length (of 0 (p ∷ A)) ≡ length (of 0 (p ∷ B)) →
    length (of 0 A) ≡ length (of 0 B)
count-rest p A B same = dite (ℕ_discrete (seat_of p) 0)
    (λ is. omega (arith, same, ap length (of_here 0 p A is), ap length (of_here 0 p B is)))
    (λ isnt. omega (arith, same, ap length (of_other 0 p A isnt), ap length (of_other 0 p B isnt)))

-- no entry is left in an order where none is in the other
none-left : (q : Placed) (B : List Placed) → ((n : ℕ) → 0 < n → [] ≡ of n (q ∷ B)) →
    0 ≡ length (of 0 (q ∷ B)) → ⊥
none-left q B same count = dite (ℕ_discrete (seat_of q) 0)
    (λ is. omega (arith, count, ap length (of_here 0 q B is)))
    (λ isnt.
    let e = same (seat_of q) (omega (arith, isnt)) ∙ of_here (seat_of q) q B refl in
    omega (arith, ap length e))

one-from : (shape : Shape) (place due : ℕ) (A B : List Placed) → IsOrderFrom shape place due A →
    IsOrderFrom shape place due B → ((n : ℕ) → 0 < n → of n A ≡ of n B) →
    length (of 0 A) ≡ length (of 0 B) → A ≡ B
one-from shape place due [] [] first second same count = refl
one-from shape place due [] (q ∷ B) first second same count = absurd (none-left q B same count)
one-from shape place due (p ∷ A) [] first second same count =
    absurd (none-left p A (λ n some. sym (same n some)) (sym count))
one-from shape place due (p ∷ A) (q ∷ B) first second same count =
    let is = one-first shape place due p q A B first second same in
    let after : IsOrderFrom shape (place + 1) (number_after due p.entry) B =
    subst (λ (x : Placed). IsOrderFrom shape (place + 1) (number_after due x.entry) B) is second.1
    in
    ap₂ (λ (x : Placed) (E : List Placed). x ∷ E) (sym is)
    (one-from shape (place + 1) (number_after due p.entry) A B first.1 after
    (λ n some. one-rest p A B n (same n some ∙ ap (λ (x : Placed). of n (x ∷ B)) is))
    (count-rest p A B (count ∙ ap (λ (x : Placed). length (of 0 (x ∷ B))) is)))

-- ---- by clients

-- under the numbers beyond those of the clients there is nothing
of-out : (shape : Shape) (place due n : ℕ) (E : List Placed) → IsOrderFrom shape place due E →
    shape.clients < n → of n E ≡ []
of-out shape place due n [] order out = refl
of-out shape place due n (p ∷ E) order out =
    let low : seat_of p ≤ shape.clients = number_low shape p.entry order.0.in_range.entry in
    of_other n p E (λ is. omega (arith, low, is, out))
    ∙ of-out shape (place + 1) (number_after due p.entry) n E order.1 out

pub one-order : (shape : Shape) (A B : List Placed) → IsOrder shape A → IsOrder shape B →
    ((c : ℕ) → c < shape.clients → of (c + 1) A ≡ of (c + 1) B) →
    length (of 0 A) ≡ mark_count B → A ≡ B
one-order shape A B first second same count =
    one-from shape 1 1 A B first second under (count ∙ sym (marks_under_zero B))
  where
    under : (n : ℕ) → 0 < n → of n A ≡ of n B
    under n some = elim (cases_lt (n - 1) shape.clients) [
      | inl low ↦
          let e : n - 1 + 1 ≡ n = omega (arith, some) in
          subst (λ m. of m A ≡ of m B) e (same (n - 1) low)
      | inr high ↦
          let out : shape.clients < n = omega (arith, some, high) in
          of-out shape 1 1 n A first out ∙ sym (of-out shape 1 1 n B second out)
    ]
