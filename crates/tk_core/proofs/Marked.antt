-- Who has applied the entries up to a mark has applied the mark.
use Rattle.std.proofs.Common.{◌≡◌, ℕ, zero, suc, ◌+◌, ◌<◌, ◌≤◌, refl, ap, sym, ◌∙◌, arith}
use Rattle.std.proofs.Common.{List, [], ◌∷◌, take, cond, Bool, true, false}
use Rattle.std.specs.Prelude.{find, option_map, Option, Some, None}
use Rattle.std.proofs.lemmas.Bool.{eqb-true}
use Rattle.tk_shape.specs.declared.shape.Shape.{Shape}
use Rattle.tk_frames.specs.declared.entry.Placed.{Placed}
use Rattle.tk_frames.specs.declared.entry.Entry.{Entry}
use Rattle.tk_frames.specs.declared.entry.Entry.TheVariants.{Write, Mark}
use Rattle.tk_frames.specs.Order.{is_mark, is_mark_of, is_mark_numbered}
use Rattle.tk_frames.specs.InOrder.{mark_count, HasNumber, number_after, IsOrderFrom, IsOrder}
use Rattle.tk_frames.proofs.Offers.{marks-cons, due-next}

-- what is found stands after those before the first
found-low : (shape : Shape) (place due e : ℕ) (E : List Placed) (p : Placed) →
    IsOrderFrom shape place due E → find (is_mark_of e) E ≡ Some p → place ≤ p.position
found-low shape place due e [] p order found = absurd cc
found-low shape place due e (x ∷ E) p order found =
    elim (is_mark_of e x) as (λ b. cond b (Some x) (find (is_mark_of e) E)
    ≡ Some p → place ≤ p.position) [
      | true ↦ λ same.
          let is : x ≡ p = cc in
          let at = (order.0).at in
          omega (arith, at, ap (λ (q : Placed). q.position) is)
      | false ↦ λ rest.
          let later = found-low shape (place + 1) (number_after due x.entry) e E p order.1 rest in
          omega (arith, later)
    ] found

-- a mark has its number
mark-number : (e due : ℕ) (x : Entry) → HasNumber due x → is_mark_numbered e x ≡ true →
    (e ≡ due) × (is_mark x ≡ true)
mark-number e due (Write w) number is = absurd cc
mark-number e due (Mark n) number is = (sym (eqb-true n e is) ∙ number, refl)

counted-here : (shape : Shape) (place due e n : ℕ) (x : Placed) (E : List Placed) (p : Placed)
    (b : Bool) → is_mark_of e x ≡ b → IsOrderFrom shape place due (x ∷ E) →
    cond b (Some x) (find (is_mark_of e) E) ≡ Some p →
    (find (is_mark_of e) E ≡ Some p → e < number_after due x.entry + mark_count (take n E)) →
    e < due + mark_count (x ∷ take n E)
counted-here shape place due e n x E p true is order found later =
    let number = mark-number e due x.entry (order.0).number is in
    let one : cond (is_mark x.entry) 1 0 ≡ 1 = ap {B = ℕ} (λ b. cond b 1 0) number.1 in
    omega (arith, number.0, marks-cons x (take n E), one)
counted-here shape place due e n x E p false is order found later =
    let below = later found in
    omega (arith, below, due-next due x (take n E))

from-counted : (shape : Shape) (place due e n : ℕ) (E : List Placed) (p : Placed) →
    IsOrderFrom shape place due E → find (is_mark_of e) E ≡ Some p → p.position < place + n →
    e < due + mark_count (take n E)
from-counted shape place due e n [] p order found low = absurd cc
from-counted shape place due e zero (x ∷ E) p order found low =
    let there = found-low shape place due e (x ∷ E) p order found in
    absurd (omega (arith, there, low))
from-counted shape place due e (suc n) (x ∷ E) p order found low =
    counted-here shape place due e n x E p (is_mark_of e x) refl order found
    (λ rest. from-counted shape (place + 1) (number_after due x.entry) e n E p order.1 rest
    (omega (arith, low)))

position-of : (o : Option Placed) (at : ℕ) →
    option_map (λ (p : Placed). p.position) o ≡ Some at → (p : Placed) × (o
    ≡ Some p) × (p.position ≡ at)
position-of None at is = absurd cc
position-of (Some p) at is = (p, refl, cc)

-- among the entries up to the position of mark e there are e marks
pub mark-counted : (shape : Shape) (E : List Placed) (e at n : ℕ) → IsOrder shape E →
    option_map (λ (p : Placed). p.position) (find (is_mark_of e) E) ≡ Some at → at ≤ n →
    e ≤ mark_count (take n E)
mark-counted shape E e at n order found reached =
    let p = position-of (find (is_mark_of e) E) at found in
    let counted =
    from-counted shape 1 1 e n E p.0 order p.1 (omega (arith, p.2, reached))
    in
    omega (arith, counted)
