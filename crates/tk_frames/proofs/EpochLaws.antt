-- Which marks stand in an order, where they stand, and what stands before them.
use Rattle.std.proofs.Common.{◌≡◌, ℕ, zero, suc, ◌+◌, ◌<◌, ◌≤◌, inl, inr, refl, ap, sym, ◌∙◌}
use Rattle.std.proofs.Common.{arith, List, [], ◌∷◌, ◌++◌, Bool, true, false, ◌||◌, cond, eq-eqb, ne_eqb}
use Rattle.std.specs.Prelude.{◌==◌}
use Rattle.std.proofs.lemmas.Bool.{cases_lt}
use Rattle.std.proofs.Math.Bool.{or-true}
use Rattle.tk_shape.specs.declared.shape.Shape.{Shape}
use Rattle.tk_frames.specs.declared.entry.Placed.{Placed}
use Rattle.tk_frames.specs.declared.entry.Entry.{Entry}
use Rattle.tk_frames.specs.declared.entry.Entry.TheVariants.{Write, Mark}
use Rattle.tk_frames.specs.Order.{records, before, has_mark, is_mark, is_mark_numbered, is_mark_of}
use Rattle.tk_frames.specs.InOrder.{mark_count, mark_position, HasNumber, number_after, IsOrderFrom, IsOrder}
use Rattle.tk_frames.proofs.Marks.{before-none, before-settled, before-marked}
use Rattle.tk_frames.proofs.MarkCounts.{marks-cons}

-- ---- which marks stand

mark-here : (x : Entry) (due e count : ℕ) (rest : Bool) → HasNumber due x → due ≤ e →
    e < due + (cond (is_mark x) 1 0 + count) →
    (number_after due x ≤ e → e < number_after due x + count → rest ≡ true) →
    (is_mark_numbered e x || rest) ≡ true
mark-here (Write w) due e count rest number low high later = later low (omega (arith, high))
mark-here (Mark n) due e count rest number low high later = elim (cases_lt due e) [
  | inl less ↦
      ap (λ b. (n == e) || b) (later (omega (arith, less)) (omega (arith, high)))
      ∙ or-true (n == e)
  | inr same ↦ ap (λ b. b || rest) (eq-eqb n e (omega (arith, same, low, number)))
]

from-mark : (shape : Shape) (place due e : ℕ) (E : List Placed) →
    IsOrderFrom shape place due E → due ≤ e → e < due + mark_count E → has_mark e E ≡ true
from-mark shape place due e [] order low high = absurd (omega (arith, low, high))
from-mark shape place due e (p ∷ E) order low high =
    mark-here p.entry due e (mark_count E) (has_mark e E) (order.0).number low
    (omega (arith, high, marks-cons p E))
    (λ past below. from-mark shape (place + 1) (number_after due p.entry) e E order.1 past below)

-- each number up to their count is that of a mark
pub has-mark : (shape : Shape) (E : List Placed) (e : ℕ) → IsOrder shape E →
    0 < e → e ≤ mark_count E → has_mark e E ≡ true
has-mark shape E e order low within =
    from-mark shape 1 1 e E order (omega (arith, low)) (omega (arith, within))

no_mark-here : (x : Entry) (due e count : ℕ) (rest : Bool) → HasNumber due x →
    due + (cond (is_mark x) 1 0 + count) ≤ e →
    (number_after due x + count ≤ e → rest ≡ false) →
    (is_mark_numbered e x || rest) ≡ false
no_mark-here (Write w) due e count rest number high later = later (omega (arith, high))
no_mark-here (Mark n) due e count rest number high later =
    let apart : (n == e) ≡ false = ne_eqb n e (λ same. omega (arith, same, number, high)) in
    ap (λ b. b || rest) apart ∙ later (omega (arith, high))

from-no_mark : (shape : Shape) (place due e : ℕ) (E : List Placed) →
    IsOrderFrom shape place due E → due + mark_count E ≤ e → has_mark e E ≡ false
from-no_mark shape place due e [] order high = refl
from-no_mark shape place due e (p ∷ E) order high =
    no_mark-here p.entry due e (mark_count E) (has_mark e E) (order.0).number
    (omega (arith, high, marks-cons p E))
    (λ past. from-no_mark shape (place + 1) (number_after due p.entry) e E order.1 past)

-- and no greater one
pub has-no_mark : (shape : Shape) (E : List Placed) (e : ℕ) → IsOrder shape E →
    mark_count E < e → has_mark e E ≡ false
has-no_mark shape E e order above = from-no_mark shape 1 1 e E order (omega (arith, above))

-- ---- what stands before them

-- before a mark that stands, whatever follows
pub before-more : (shape : Shape) (E F : List Placed) (e : ℕ) → IsOrder shape E →
    e ≤ mark_count E → before (E ++ F) e ≡ before E e
before-more shape E F zero order within = before-none (E ++ F) ∙ sym (before-none E)
before-more shape E F (suc e) order within =
    before-settled E F (suc e) (has-mark shape E (suc e) order (omega arith) within)

-- before the mark that comes next: all writes so far
pub before-mark : (shape : Shape) (E : List Placed) (p : Placed) (e : ℕ) → IsOrder shape E →
    p.entry ≡ Mark e → e ≡ mark_count E + 1 → before (E ++ p ∷ []) e ≡ records E
before-mark shape E p e order at number =
    before-marked E [] p e (omega (arith, number))
    (has-no_mark shape E e order (omega (arith, number)))
    (ap (is_mark_numbered e) at ∙ eq-eqb e e refl)

-- ---- where they stand

-- the mark due next is none that stands
other-mark : (e due : ℕ) (x : Entry) → HasNumber due x → e < due → is_mark_numbered e x ≡ false
other-mark e due (Write w) number low = refl
other-mark e due (Mark n) number low = ne_eqb n e (λ same. omega (arith, same, number, low))

position-other : (e : ℕ) (E : List Placed) (p : Placed) → is_mark_of e p ≡ false →
    mark_position (E ++ p ∷ []) e ≡ mark_position E e
position-other e [] p other = ap (λ b. cond b p.position 0) other
position-other e (x ∷ E) p other =
    ap (λ n. cond (is_mark_of e x) x.position n) (position-other e E p other)

position-new : (e : ℕ) (E : List Placed) (p : Placed) → has_mark e E ≡ false →
    is_mark_of e p ≡ true → mark_position (E ++ p ∷ []) e ≡ p.position
position-new e [] p none at = ap (λ b. cond b p.position 0) at
position-new e (x ∷ E) p none at =
    elim (is_mark_of e x) as (λ b. (b || has_mark e E) ≡ false →
    cond b x.position (mark_position (E ++ p ∷ []) e) ≡ p.position)
    [ true ↦ λ h. absurd cc | false ↦ λ rest. position-new e E p rest at ] none

-- marks that stand stay where they are
pub mark_position-more : (E : List Placed) (p : Placed) (e : ℕ) →
    HasNumber (mark_count E + 1) p.entry → e ≤ mark_count E →
    mark_position (E ++ p ∷ []) e ≡ mark_position E e
mark_position-more E p e number within =
    position-other e E p (other-mark e (mark_count E + 1) p.entry number (omega (arith, within)))

-- the mark that comes next stands where it is put
pub mark_position-mark : (shape : Shape) (E : List Placed) (p : Placed) (e : ℕ) →
    IsOrder shape E → p.entry ≡ Mark e → e ≡ mark_count E + 1 →
    mark_position (E ++ p ∷ []) e ≡ p.position
mark_position-mark shape E p e order at number =
    position-new e E p (has-no_mark shape E e order (omega (arith, number)))
    (ap (is_mark_numbered e) at ∙ eq-eqb e e refl)

none-here : (x : Entry) (due position rest : ℕ) → HasNumber due x → 0 < due →
    (0 < number_after due x → rest ≡ 0) → cond (is_mark_numbered 0 x) position rest ≡ 0
none-here (Write w) due position rest number low later = later low
none-here (Mark n) due position rest number low later =
    let apart : (n == 0) ≡ false = ne_eqb n 0 (λ same. omega (arith, same, number, low)) in
    ap (λ b. cond b position rest) apart ∙ later (omega arith)

from-none : (shape : Shape) (place due : ℕ) (E : List Placed) →
    IsOrderFrom shape place due E → 0 < due → mark_position E 0 ≡ 0
from-none shape place due [] order low = refl
from-none shape place due (p ∷ E) order low =
    none-here p.entry due p.position (mark_position E 0) (order.0).number low
    (λ past. from-none shape (place + 1) (number_after due p.entry) E order.1 past)

-- epoch 0 has no mark
pub mark_position-none : (shape : Shape) (E : List Placed) → IsOrder shape E →
    mark_position E 0 ≡ 0
mark_position-none shape E order = from-none shape 1 1 E order (omega arith)
