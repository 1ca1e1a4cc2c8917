-- Which marks stand among an order's first entries, by their positions.
use Rattle.std.proofs.Common.{◌≡◌, ℕ, zero, suc, ◌+◌, ◌<◌, ◌≤◌, ap, arith, eq-eqb, ne_eqb, cond, true, false}
use Rattle.std.proofs.Common.{inl, inr, List, [], ◌∷◌, take, drop}
use Rattle.std.specs.Prelude.{◌==◌}
use Rattle.std.proofs.lemmas.Bool.{cases_lt}
use Rattle.std.proofs.lemmas.List.{take-append-drop}
use Rattle.tk_shape.specs.declared.shape.Shape.{Shape}
use Rattle.tk_frames.specs.declared.entry.Placed.{Placed}
use Rattle.tk_frames.specs.declared.entry.Entry.{Entry}
use Rattle.tk_frames.specs.declared.entry.Entry.TheVariants.{Write, Mark}
use Rattle.tk_frames.specs.Order.{is_mark, is_mark_numbered}
use Rattle.tk_frames.specs.InOrder.{mark_count, mark_position, HasNumber, number_after, IsOrderFrom, IsOrder}
use Rattle.tk_frames.proofs.Offers.{marks-cons, marks-append, mark_position-none}
use Rattle.tk_replica.specs.Following.{marks_among}

-- a mark that stands no sooner than a place
low-here : (x : Entry) (due n place at count rest : ℕ) → HasNumber due x → due ≤ n →
    n < due + (cond (is_mark x) 1 0 + count) → place ≤ at →
    (number_after due x ≤ n → n < number_after due x + count → place + 1 ≤ rest) →
    place ≤ cond (is_mark_numbered n x) at rest
low-here (Write w) due n place at count rest number low high here later =
    let there = later low (omega (arith, high)) in omega (arith, there)
low-here (Mark m) due n place at count rest number low high here later = elim (cases_lt due n) [
  | inl less ↦
      let there = later (omega (arith, less)) (omega (arith, high)) in
      let apart : (m == n) ≡ false = ne_eqb m n (λ same. omega (arith, same, number, less)) in
      let is : cond (m == n) at rest ≡ rest = ap (λ b. cond b at rest) apart in
      omega (arith, is, there)
  | inr same ↦
      let alike : (m == n) ≡ true = eq-eqb m n (omega (arith, same, low, number)) in
      let is : cond (m == n) at rest ≡ at = ap (λ b. cond b at rest) alike in
      omega (arith, is, here)
]

from-low : (shape : Shape) (place due n : ℕ) (E : List Placed) → IsOrderFrom shape place due E →
    due ≤ n → n < due + mark_count E → place ≤ mark_position E n
from-low shape place due n [] order low high = absurd (omega (arith, low, high))
from-low shape place due n (p ∷ E) order low high =
    let at = (order.0).at in
    low-here p.entry due n place p.position (mark_count E) (mark_position E n) (order.0).number low
    (omega (arith, high, marks-cons p E)) (omega (arith, at))
    (from-low shape (place + 1) (number_after due p.entry) n E order.1)

-- one that stands among the first entries
within-here : (x : Entry) (due n place k at count rest : ℕ) → HasNumber due x → due ≤ n →
    n < due + (cond (is_mark x) 1 0 + count) → at ≡ place →
    (number_after due x ≤ n → n < number_after due x + count → rest < place + 1 + k) →
    cond (is_mark_numbered n x) at rest < place + suc k
within-here (Write w) due n place k at count rest number low high here later =
    let there = later low (omega (arith, high)) in omega (arith, there)
within-here (Mark m) due n place k at count rest number low high here later =
    elim (cases_lt due n) [
      | inl less ↦
          let there = later (omega (arith, less)) (omega (arith, high)) in
          let apart : (m == n) ≡ false = ne_eqb m n (λ same. omega (arith, same, number, less)) in
          let is : cond (m == n) at rest ≡ rest = ap (λ b. cond b at rest) apart in
          omega (arith, is, there)
      | inr same ↦
          let alike : (m == n) ≡ true = eq-eqb m n (omega (arith, same, low, number)) in
          let is : cond (m == n) at rest ≡ at = ap (λ b. cond b at rest) alike in
          omega (arith, is, here)
    ]

from-within : (shape : Shape) (place due n k : ℕ) (E : List Placed) →
    IsOrderFrom shape place due E → due ≤ n → n < due + mark_count (take k E) →
    mark_position E n < place + k
from-within shape place due n zero [] order low high = absurd (omega (arith, low, high))
from-within shape place due n zero (p ∷ E) order low high = absurd (omega (arith, low, high))
from-within shape place due n (suc k) [] order low high = absurd (omega (arith, low, high))
from-within shape place due n (suc k) (p ∷ E) order low high =
    within-here p.entry due n place k p.position (mark_count (take k E)) (mark_position E n)
    (order.0).number low (omega (arith, high, marks-cons p (take k E))) (order.0).at
    (from-within shape (place + 1) (number_after due p.entry) n k E order.1)

-- and one that stands no later than the last of them is among them
among-here : (x : Entry) (due n place k at all count rest : ℕ) → HasNumber due x → due ≤ n →
    n < due + (cond (is_mark x) 1 0 + all) →
    cond (is_mark_numbered n x) at rest < place + suc k →
    (number_after due x ≤ n → n < number_after due x + all → rest < place + 1 + k →
    n < number_after due x + count) → n < due + (cond (is_mark x) 1 0 + count)
among-here (Write w) due n place k at all count rest number low high here later =
    let there = later low (omega (arith, high)) (omega (arith, here)) in omega (arith, there)
among-here (Mark m) due n place k at all count rest number low high here later =
    elim (cases_lt due n) [
      | inl less ↦
          let apart : (m == n) ≡ false = ne_eqb m n (λ same. omega (arith, same, number, less)) in
          let is : cond (m == n) at rest ≡ rest = ap (λ b. cond b at rest) apart in
          let there =
          later (omega (arith, less)) (omega (arith, high)) (omega (arith, is, here)) in
          omega (arith, there)
      | inr same ↦ omega (arith, same, low)
    ]

from-among : (shape : Shape) (place due n k : ℕ) (E : List Placed) →
    IsOrderFrom shape place due E → due ≤ n → n < due + mark_count E →
    mark_position E n < place + k → n < due + mark_count (take k E)
from-among shape place due n k [] order low high at = absurd (omega (arith, low, high))
from-among shape place due n zero (p ∷ E) order low high at =
    absurd (omega (arith, at, from-low shape place due n (p ∷ E) order low high))
from-among shape place due n (suc k) (p ∷ E) order low high at =
    let there =
    among-here p.entry due n place k p.position (mark_count E) (mark_count (take k E))
    (mark_position E n) (order.0).number low (omega (arith, high, marks-cons p E)) at
    (from-among shape (place + 1) (number_after due p.entry) n k E order.1)
    in
    omega (arith, there, marks-cons p (take k E))

-- ---- in an order

pub mark-within : (shape : Shape) (k n : ℕ) (E : List Placed) → IsOrder shape E →
    n ≤ marks_among k E → mark_position E n ≤ k
mark-within shape k zero E order within =
    omega (arith, mark_position-none shape E order)
mark-within shape k (suc n) E order within =
    let there = from-within shape 1 1 (suc n) k E order (omega arith) (omega (arith, within)) in
    omega (arith, there)

pub mark-among : (shape : Shape) (k n : ℕ) (E : List Placed) → IsOrder shape E →
    n ≤ mark_count E → mark_position E n ≤ k → n ≤ marks_among k E
mark-among shape k zero E order stands at = omega arith
mark-among shape k (suc n) E order stands at =
    let there =
    from-among shape 1 1 (suc n) k E order (omega arith) (omega (arith, stands)) (omega (arith, at))
    in
    omega (arith, there)

pub marks_among-most : (k : ℕ) (E : List Placed) → marks_among k E ≤ mark_count E
marks_among-most k E =
    omega (arith, marks-append (take k E) (drop k E), ap mark_count (take-append-drop k E))
