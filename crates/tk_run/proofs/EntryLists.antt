-- A list of entries of which it is known what stands under each number.
use Rattle.std.proofs.Common.{◌≡◌, ℕ, zero, suc, ◌+◌, ◌<◌, ◌≤◌, ◌==◌, cond, List, [], ◌∷◌, ◌++◌}
use Rattle.std.proofs.Common.{length, get_or, refl, ap, sym, ◌∙◌, subst, arith}
use Rattle.std.proofs.lemmas.List.{append-nil, append_cancel_left}
use Rattle.std.proofs.lemmas.Bool.Decides.{nat_tests}
use mathlib.Core.List.{IsPrefix}
use mathlib.Core.Logic.{dite}
use native.Mathlib.Decide.{ℕ_discrete}
use lib.Dec.{leb}
use Rattle.tk_shape.specs.declared.shape.Shape.{Shape}
use Rattle.tk_frames.specs.declared.entry.Placed.{Placed}
use Rattle.tk_frames.specs.InOrder.{number_after, IsOrderFrom, IsOrder}
use Rattle.tk_order.specs.Legality.{seat_of, of}
use Rattle.tk_order.proofs.Offers.{of-append, of_here, of_other, number_low}

-- each entry stands under a number of at most n
abbrev pub Ranged : ℕ → List Placed → Type 0
Ranged n [] = Unit {0}
Ranged n (p ∷ E) = (seat_of p ≤ n) × Ranged n E

pub from_ranged : (shape : Shape) (place due : ℕ) (E : List Placed) →
    IsOrderFrom shape place due E → Ranged shape.clients E
from_ranged shape place due [] order = tt
from_ranged shape place due (p ∷ E) order = (
  number_low shape p.entry (order.0).in_range.entry,
  from_ranged shape (place + 1) (number_after due p.entry) E order.1,
)

ranged_rest : (n : ℕ) (E F : List Placed) → Ranged n (E ++ F) → Ranged n F
ranged_rest n [] F h = h
ranged_rest n (p ∷ E) F h = ranged_rest n E F h.1

-- ---- a rest with no entries under any number is empty

none_left : (n : ℕ) (E : List Placed) → Ranged n E → ((k : ℕ) → k ≤ n → of k E ≡ []) → E ≡ []
none_left n [] r h = refl
none_left n (p ∷ E) r h =
    absurd (let i = sym (of_here (seat_of p) p E refl) ∙ h (seat_of p) r.0 in cc i)

-- two lists, of which one begins the other, with the same entries under each number are one
pub same_list : (shape : Shape) (E F : List Placed) → IsPrefix E F → IsOrder shape F →
    ((k : ℕ) → k ≤ shape.clients → of k F ≡ of k E) → F ≡ E
same_list shape E F p order h =
    let ranged : Ranged shape.clients (E ++ p.0) =
    subst (Ranged shape.clients) (sym p.1) (from_ranged shape 1 1 F order)
    in
    let rest : p.0 ≡ [] = none_left shape.clients p.0 (ranged_rest shape.clients E p.0 ranged)
    (λ k le. append_cancel_left (of k E) (of k p.0) []
    (sym (of-append k E p.0) ∙ (ap (of k) p.1 ∙ (h k le ∙ sym (append-nil (of k E))))))
    in
    sym p.1 ∙ (ap (λ ys. E ++ ys) rest ∙ append-nil E)

-- ---- how many entries there are

abbrev one_of : ℕ → Placed → ℕ
one_of n p = cond (seat_of p == n) 1 0

pub length_of : (n : ℕ) (p : Placed) (E : List Placed) →
    length (of n (p ∷ E)) ≡ one_of n p + length (of n E)
length_of n p E = grind (arith, nat_tests)

-- how many stand under a number of at most n
abbrev below : ℕ → List Placed → ℕ
below n [] = 0
below n (p ∷ E) = cond (leb (seat_of p) n) 1 0 + below n E

below_zero : (E : List Placed) → below 0 E ≡ length (of 0 E)
below_zero [] = refl
below_zero (p ∷ E) =
    let i : cond (leb (seat_of p) 0) 1 0 ≡ one_of 0 p = grind (arith, nat_tests) in
    omega (arith, i, below_zero E, length_of 0 p E)

below_next : (n : ℕ) (E : List Placed) → below (n + 1) E ≡ below n E + length (of (n + 1) E)
below_next n [] = refl
below_next n (p ∷ E) =
    let i : cond (leb (seat_of p) (n + 1)) 1 0 ≡ cond (leb (seat_of p) n) 1 0 + one_of (n + 1) p =
    grind (arith, nat_tests)
    in
    omega (arith, i, below_next n E, length_of (n + 1) p E)

below_all : (n : ℕ) (E : List Placed) → Ranged n E → below n E ≡ length E
below_all n [] h = refl
below_all n (p ∷ E) h =
    let a : seat_of p ≤ n = h.0 in
    let one : ℕ = 1 in
    let i : cond (leb (seat_of p) n) 1 0 ≡ one = grind (arith, nat_tests) in
    omega (arith, i, below_all n E h.1)

below_each : (n : ℕ) (E : List Placed) → ((c : ℕ) → c < n → length (of (c + 1) E) ≡ 1) →
    below n E ≡ n + length (of 0 E)
below_each zero E h = omega (arith, below_zero E)
below_each (suc n) E h =
    let e : suc n ≡ n + 1 = omega arith in
    let i = below_each n E (λ c lt. h c (omega (arith, lt))) in
    ap (λ m. below m E) e ∙ omega (arith, below_next n E, h n (omega arith), i)

-- one entry for each client, and the marks
pub count_all : (n : ℕ) (E : List Placed) → Ranged n E →
    ((c : ℕ) → c < n → length (of (c + 1) E) ≡ 1) → length E ≡ n + length (of 0 E)
count_all n E r h = sym (below_all n E r) ∙ below_each n E h

-- ---- the one entry under a number

abbrev HasSeat : ℕ → List Placed → ℕ → Placed → Type 0
HasSeat n E i d = seat_of (get_or E i d) ≡ n

-- where nothing stands under a number, each entry is of another one
none_at : (n : ℕ) (E : List Placed) (i : ℕ) (d : Placed) → of n E ≡ [] → i < length E →
    HasSeat n E i d → ⊥
none_at n [] i d none low is = absurd (omega (arith, low))
none_at n (p ∷ E) zero d none low is = absurd (let j = sym (of_here n p E is) ∙ none in cc j)
none_at n (p ∷ E) (suc i) d none low is = dite (ℕ_discrete (seat_of p) n)
    (λ here. absurd (let j = sym (of_here n p E here) ∙ none in cc j))
    (λ other. none_at n E i d (sym (of_other n p E other) ∙ none) (omega (arith, low)) is)

-- where one stands under a number, each entry under it is this one
pub one_at : (n : ℕ) (E : List Placed) (i : ℕ) (d q : Placed) → of n E ≡ q ∷ [] → i < length E →
    HasSeat n E i d → get_or E i d ≡ q
one_at n [] i d q one low is = absurd (omega (arith, low))
one_at n (p ∷ E) zero d q one low is = let j = sym (of_here n p E is) ∙ one in cc j
one_at n (p ∷ E) (suc i) d q one low is = dite (ℕ_discrete (seat_of p) n)
    (λ here.
    let j : p ∷ of n E ≡ q ∷ [] = sym (of_here n p E here) ∙ one in
    let none : of n E ≡ [] = cc j in
    absurd (none_at n E i d none (omega (arith, low)) is))
    (λ other. one_at n E i d q (sym (of_other n p E other) ∙ one) (omega (arith, low)) is)

-- where one stands under a number, it stands somewhere
pub one_there : (n : ℕ) (E : List Placed) (d q : Placed) → of n E ≡ q ∷ [] →
    (i : ℕ) × (i < length E) × (get_or E i d ≡ q)
one_there n [] d q one = absurd (cc one)
one_there n (p ∷ E) d q one = dite (ℕ_discrete (seat_of p) n)
    (λ here.
    let j : p ∷ of n E ≡ q ∷ [] = sym (of_here n p E here) ∙ one in
    (zero, omega arith, cc j))
    (λ other.
    let rest = one_there n E d q (sym (of_other n p E other) ∙ one) in
    (suc rest.0, omega (arith, rest.1), rest.2))

pub ranged_at : (n : ℕ) (E : List Placed) (i : ℕ) (d : Placed) → Ranged n E → i < length E →
    seat_of (get_or E i d) ≤ n
ranged_at n [] i d h low = absurd (omega (arith, low))
ranged_at n (p ∷ E) zero d h low = h.0
ranged_at n (p ∷ E) (suc i) d h low = ranged_at n E i d h.1 (omega (arith, low))
