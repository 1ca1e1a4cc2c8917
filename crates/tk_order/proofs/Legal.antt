-- A list that may be an order goes on with an entry that may follow.
use Rattle.std.proofs.Common.{true, false, ◌≡◌, ◌≢◌, ℕ, ◌+◌, ◌<◌, ◌≤◌, ◌==◌, List, [], ◌∷◌, ◌++◌, length, refl, ap, sym, ◌∙◌, subst, arith, length-append}
use Rattle.std.proofs.lemmas.List.Elements.{filter-append}
use Rattle.std.proofs.lemmas.List.{append-nil}
use Rattle.std.proofs.lemmas.Nat.{mul-le}
use Rattle.std.proofs.lemmas.Bool.Decides.{nat_tests}
use mathlib.Core.List.{IsPrefix}
use mathlib.Core.Logic.{dite}
use native.Mathlib.Decide.{ℕ_discrete}
use Rattle.tk_shape.specs.declared.shape.Shape.{Shape}
use Rattle.tk_shape.specs.Lengths.{turn_count}
use Rattle.tk_frames.specs.declared.entry.Placed.{Placed}
use Rattle.tk_frames.specs.declared.entry.Entry.{Entry}
use Rattle.tk_frames.specs.declared.entry.Entry.TheVariants.{Write, Mark}
use Rattle.tk_frames.specs.Ranges.{IsEntry}
use Rattle.tk_frames.proofs.Offers.{order-none, order-push}
use Rattle.tk_order.specs.Legality.{number_of, seat_of, of, IsDue, IsLegal, MayFollow}
use Rattle.tk_order.proofs.Turns.{next_due}
use Rattle.tk_lists.proofs.Offers.{prefix_whole, prefix_length}

pub of-append : (n : ℕ) (xs ys : List Placed) → of n (xs ++ ys) ≡ of n xs ++ of n ys
of-append n xs ys = filter-append (λ p. seat_of p == n) xs ys

pub of_here : (n : ℕ) (p : Placed) (E : List Placed) → seat_of p ≡ n → of n (p ∷ E) ≡ p ∷ of n E
of_here n p E is = let yes : (seat_of p == n) ≡ true = grind (arith, nat_tests, is) in rw yes refl

pub of_other : (n : ℕ) (p : Placed) (E : List Placed) → seat_of p ≢ n → of n (p ∷ E) ≡ of n E
of_other n p E isnt =
    let no : (seat_of p == n) ≡ false = grind (arith, nat_tests, isnt) in rw no refl

-- no entry in range stands under a number past the clients'
pub number_low : (shape : Shape) (x : Entry) → IsEntry shape x → number_of x ≤ shape.clients
number_low shape (Write w) is = omega (arith, is.client)
number_low shape (Mark e) is = omega arith

-- the entries under a number after one more
pub of_added : (n : ℕ) (xs own : List Placed) (p : Placed) → seat_of p ≡ n → of n xs ≡ own →
    of n (xs ++ p ∷ []) ≡ own ++ p ∷ []
of_added n xs own p is has =
    of-append n xs (p ∷ []) ∙
    (ap (λ ys. ys ++ of n (p ∷ [])) has ∙ ap (λ ys. own ++ ys) (of_here n p [] is))

-- and under another number
pub of_else : (n : ℕ) (xs own : List Placed) (p : Placed) → seat_of p ≢ n → of n xs ≡ own →
    of n (xs ++ p ∷ []) ≡ own
of_else n xs own p isnt has =
    of-append n xs (p ∷ []) ∙
    (ap (λ ys. ys ++ of n (p ∷ [])) has ∙
    (ap (λ ys. own ++ ys) (of_other n p [] isnt) ∙ append-nil own))

pub of_prefix : (n : ℕ) (xs ys : List Placed) → IsPrefix xs ys → IsPrefix (of n xs) (of n ys)
of_prefix n xs ys p = (of n p.0, sym (of-append n xs p.0) ∙ ap (of n) p.1)

-- what stands between two lists with the same entries under a number has these entries too
pub of_between : (n : ℕ) (xs ys zs own : List Placed) → IsPrefix xs ys → IsPrefix ys zs →
    of n xs ≡ own → of n zs ≡ own → of n ys ≡ own
of_between n xs ys zs own p q a b =
    let i = prefix_length (of n xs) (of n ys) (of_prefix n xs ys p) in
    let j =
    prefix_whole (of n ys) (of n zs) (of_prefix n ys zs q) (omega (arith, i, ap length a, ap length b))
    in
    j ∙ b

pub legal_first : (shape : Shape) → IsLegal shape []
legal_first shape = record { order = order-none shape; few = (λ n some. omega arith) }

-- an entry that may follow leaves each client at most its turns
few_after : (shape : Shape) (own : List Placed) (p : Placed) (x : Entry) → p.entry ≡ x →
    0 < seat_of p → IsDue shape own x → length (own ++ p ∷ []) ≤ turn_count shape
few_after shape own p (Write w) is some due = omega (arith, length-append own (p ∷ []), due)
few_after shape own p (Mark e) is some due =
    let none : seat_of p ≡ 0 = ap number_of is in
    absurd (omega (arith, none, some))

pub legal_after : (shape : Shape) (E own : List Placed) (p : Placed) → IsLegal shape E →
    of (seat_of p) E ≡ own → MayFollow shape own p.entry → p.position ≡ length E + 1 →
    IsLegal shape (E ++ p ∷ [])
legal_after shape E own p legal has may at =
    record {
      order = order-push shape E p legal.order (next_due shape E own p legal has may at);
      few = few;
    }
  where
    few : (n : ℕ) → 0 < n → length (of n (E ++ p ∷ [])) ≤ turn_count shape
    few n some = dite (ℕ_discrete (seat_of p) n)
        (λ is.
        subst (λ (ys : List Placed). length ys ≤ turn_count shape)
        (sym (of_added n E own p is (ap (λ m. of m E) (sym is) ∙ has)))
        (few_after shape own p p.entry refl (subst (λ m. 0 < m) (sym is) some) may.due))
        (λ isnt.
        subst (λ (ys : List Placed). length ys ≤ turn_count shape)
        (sym (of_else n E (of n E) p isnt refl)) (legal.few n some))

-- a seat orders few entries
own_few : (shape : Shape) (own : List Placed) (x : Entry) → IsEntry shape x → IsDue shape own x →
    length own < 16384
own_few shape own (Write w) in_range due =
    let phases = shape.in_range.phases_high in
    let ticks = shape.in_range.ticks_high in
    omega (arith, due, mul-le shape.phases shape.ticks 256 64 phases ticks)
own_few shape own (Mark e) in_range due =
    omega (arith, due, in_range.1, shape.in_range.phases_high)

pub ordered_few : (shape : Shape) (own : List Placed) (x : Entry) → MayFollow shape own x →
    length own < 16384
ordered_few shape own x may = own_few shape own x may.in_range may.due
