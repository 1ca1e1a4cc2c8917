-- Whether pairs can be placed depends neither on their order nor on which bucket of a pair is named
-- first.
use Rattle.std.proofs.Common.{◌≡◌, ℕ, zero, suc, ◌⊎◌, inl, inr, refl, ap, sym, ◌∙◌, arith, List, []}
use Rattle.std.proofs.Common.{◌∷◌, ◌++◌, Bool, true, false, cond, ◌||◌, eq-eqb, eqb-true, ◌&&◌}
use Rattle.std.specs.Prelude.{◌==◌}
use Rattle.std.proofs.lemmas.Bool.{or_left, or_cases, and_parts, and_from}
use Rattle.std.specs.List.{sum_by}
use Rattle.std.proofs.lemmas.List.Sums.{sum_by-cons}
use Rattle.std.proofs.Math.Bool.{or_comm}
use Rattle.tk_place.specs.Place.{one_more, is_placeable}
use Rattle.tk_table.proofs.Counting.{count_by-passes, found, none-length, sum-without}

one_more-comm : (counts : List ℕ) (a b : ℕ) →
    one_more (one_more counts a) b ≡ one_more (one_more counts b) a
one_more-comm [] a b = refl
one_more-comm (n ∷ counts) zero zero = refl
one_more-comm (n ∷ counts) zero (suc b) = refl
one_more-comm (n ∷ counts) (suc a) zero = refl
one_more-comm (n ∷ counts) (suc a) (suc b) = ap (λ ns. n ∷ ns) (one_more-comm counts a b)

or-swap : (a b c d : Bool) → ((a || b) || (c || d)) ≡ ((a || c) || (b || d))
or-swap true b c d = refl
or-swap false true c d = or-true c
  where
    or-true : (c : Bool) → true ≡ (c || true)
    or-true true = refl
    or-true false = refl
or-swap false false true d = refl
or-swap false false false d = refl

placeable-flip : (depth : ℕ) (counts : List ℕ) (a b : ℕ) (ps : List (ℕ × ℕ)) →
    is_placeable depth counts ((a, b) ∷ ps) ≡ is_placeable depth counts ((b, a) ∷ ps)
unfolding is_placeable
placeable-flip depth counts a b ps =
    or_comm (is_placeable depth (one_more counts a) ps) (is_placeable depth (one_more counts b) ps)

placeable-swap : (depth : ℕ) (counts : List ℕ) (p q : ℕ × ℕ) (ps : List (ℕ × ℕ)) →
    is_placeable depth counts (p ∷ q ∷ ps) ≡ is_placeable depth counts (q ∷ p ∷ ps)
unfolding is_placeable
placeable-swap depth counts p q ps =
    or-swap (at (one_more (one_more counts p.0) q.0)) (at (one_more (one_more counts p.0) q.1))
    (at (one_more (one_more counts p.1) q.0)) (at (one_more (one_more counts p.1) q.1))
    ∙ ap (λ cs. (at cs || at (one_more (one_more counts p.1) q.0)) || (at
    (one_more (one_more counts p.0) q.1) || at (one_more (one_more counts p.1) q.1)))
    (one_more-comm counts p.0 q.0)
    ∙ ap (λ cs. (at (one_more (one_more counts q.0) p.0) || at cs) || (at
    (one_more (one_more counts p.0) q.1) || at (one_more (one_more counts p.1) q.1)))
    (one_more-comm counts p.1 q.0)
    ∙ ap (λ cs. (at (one_more (one_more counts q.0) p.0) || at
    (one_more (one_more counts q.0) p.1)) || (at cs || at (one_more (one_more counts p.1) q.1)))
    (one_more-comm counts p.0 q.1)
    ∙ ap (λ cs. (at (one_more (one_more counts q.0) p.0) || at
    (one_more (one_more counts q.0) p.1)) || (at (one_more (one_more counts q.1) p.0) || at cs))
    (one_more-comm counts p.1 q.1)
  where
    at : List ℕ → Bool
    at cs = is_placeable depth cs ps

placeable-cons : (depth : ℕ) (p : ℕ × ℕ) (ps qs : List (ℕ × ℕ)) →
    ((counts : List ℕ) → is_placeable depth counts ps ≡ is_placeable depth counts qs) →
    (counts : List ℕ) → is_placeable depth counts (p ∷ ps) ≡ is_placeable depth counts (p ∷ qs)
unfolding is_placeable
placeable-cons depth p ps qs same counts =
    ap (λ t. t || is_placeable depth (one_more counts p.1) ps) (same (one_more counts p.0))
    ∙ ap (λ t. is_placeable depth (one_more counts p.0) qs || t) (same (one_more counts p.1))

placeable-to_front : (depth : ℕ) (front : List (ℕ × ℕ)) (p : ℕ × ℕ) (back : List (ℕ × ℕ))
    (counts : List ℕ) →
    is_placeable depth counts (p ∷ (front ++ back)) ≡ is_placeable depth counts (front ++ p ∷ back)
placeable-to_front depth [] p back counts = refl
placeable-to_front depth (q ∷ front) p back counts =
    placeable-swap depth counts p q (front ++ back)
    ∙ placeable-cons depth q (p ∷ (front ++ back)) (front ++ p ∷ back)
    (placeable-to_front depth front p back) counts

-- one pair, or the other way round
same_pair : ℕ × ℕ → ℕ × ℕ → Bool
same_pair p q = (q.0 == p.0 && q.1 == p.1) || (q.1 == p.0 && q.0 == p.1)

same_pair-own : (p : ℕ × ℕ) → same_pair p p ≡ true
unfolding same_pair
same_pair-own p = or_left (p.0 == p.0 && p.1 == p.1) (p.1 == p.0 && p.0 == p.1)
    (and_from (p.0 == p.0) (p.1 == p.1) (eq-eqb p.0 p.0 refl) (eq-eqb p.1 p.1 refl))

-- a weight that is blind for which bucket of a pair is named first
abbrev pub IsBlind : (ℕ × ℕ → ℕ) → Type 0
IsBlind weight = (a b : ℕ) → weight (a, b) ≡ weight (b, a)

same_pair-blind : (p : ℕ × ℕ) → IsBlind (λ q. cond (same_pair p q) 1 0)
unfolding same_pair
same_pair-blind p a b = ap (λ t. cond t 1 0) (or_comm (a == p.0 && b == p.1) (b == p.0 && a == p.1))

same_pair-cases : (p q : ℕ × ℕ) → same_pair p q ≡ true → (q ≡ p) ⊎ (q ≡ (p.1, p.0))
unfolding same_pair
same_pair-cases p q e =
    elim (or_cases (q.0 == p.0 && q.1 == p.1) (q.1 == p.0 && q.0 == p.1) e) [
      | inl h ↦ inl (pair (eqb-true q.0 p.0 (and_parts (q.0 == p.0) (q.1 == p.1) h).0)
          (eqb-true q.1 p.1 (and_parts (q.0 == p.0) (q.1 == p.1) h).1))
      | inr h ↦ inr (pair (eqb-true q.0 p.1 (and_parts (q.1 == p.0) (q.0 == p.1) h).1)
          (eqb-true q.1 p.0 (and_parts (q.1 == p.0) (q.0 == p.1) h).0))
    ]
  where
    pair : {a b c d : ℕ} → a ≡ b → c ≡ d → Path (ℕ × ℕ) (a, c) (b, d)
    pair {a} {b} {c} {d} e f = ap {B = ℕ × ℕ} (λ x. (x, c)) e ∙ ap {B = ℕ × ℕ} (λ y. (b, y)) f

-- pairs that count alike by each blind weight
abbrev pub PairAlike : List (ℕ × ℕ) → List (ℕ × ℕ) → Type 0
PairAlike ps qs = (weight : ℕ × ℕ → ℕ) → IsBlind weight → sum_by weight ps ≡ sum_by weight qs

alike-weight : (weight : ℕ × ℕ → ℕ) → IsBlind weight → (p q : ℕ × ℕ) → (q ≡ p) ⊎ (q ≡ (p.1, p.0)) →
    weight q ≡ weight p
alike-weight weight blind p q (inl e) = ap weight e
alike-weight weight blind p q (inr e) = ap weight e ∙ blind p.1 p.0

alike-placeable : (depth : ℕ) (counts : List ℕ) (p q : ℕ × ℕ) (ps : List (ℕ × ℕ)) →
    (q ≡ p) ⊎ (q ≡ (p.1, p.0)) →
    is_placeable depth counts (q ∷ ps) ≡ is_placeable depth counts (p ∷ ps)
alike-placeable depth counts p q ps (inl e) = ap (λ x. is_placeable depth counts (x ∷ ps)) e
alike-placeable depth counts p q ps (inr e) =
    ap (λ x. is_placeable depth counts (x ∷ ps)) e ∙ placeable-flip depth counts p.1 p.0 ps

pub placeable-alike : (depth : ℕ) (ps qs : List (ℕ × ℕ)) → PairAlike ps qs → (counts : List ℕ) →
    is_placeable depth counts ps ≡ is_placeable depth counts qs
placeable-alike depth [] qs alike counts =
    ap (is_placeable depth counts) (sym (none-length qs (sym (alike (λ _. 1) (λ a b. refl)))))
placeable-alike depth (p ∷ ps) qs alike counts =
    let one = count_by-passes (same_pair p) p ps (same_pair-own p) in
    let there = found (same_pair p) qs
    (omega (arith, one, alike (λ q. cond (same_pair p q) 1 0) (same_pair-blind p))) in
    let which = same_pair-cases p there.item there.passes in
    let rest : PairAlike ps (there.front ++ there.back) =
    λ weight blind. (let l = sum_by-cons weight p ps in
    let r = ap (sum_by weight) there.split
    ∙ sum-without weight there.front there.back there.item in
    omega (arith, l, r, alike weight blind, alike-weight weight blind p there.item which)) in
    placeable-cons depth p ps (there.front ++ there.back)
    (placeable-alike depth ps (there.front ++ there.back) rest) counts
    ∙ sym (alike-placeable depth counts p there.item (there.front ++ there.back) which)
    ∙ placeable-to_front depth there.front there.item there.back counts
    ∙ ap (is_placeable depth counts) (sym there.split)
