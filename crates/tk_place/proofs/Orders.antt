-- A placement stays one in any order of the pairs, and of the buckets in a pair.
use Rattle.std.proofs.Common.{◌≡◌, ℕ, zero, suc, ◌<◌, ◌⊎◌, inl, inr, List, [], ◌∷◌, length, get_or, set, map, min, max, cond, ◌==◌, swap, IsPermutation, refl, sym, ◌∙◌, arith}
use Rattle.std.proofs.lemmas.Bool.Decides.{leb_tells}
use Rattle.std.proofs.lemmas.List.Sorted.{IsPermutation-keeps, IsPermutation-swap, sum_by-IsPermutation}
use Rattle.tk_place.specs.Pairs.{AreOwn, HasPlacement, ordered, PlacedInAnyOrder}

-- ---- the buckets in a pair

abbrev Own : ℕ × ℕ → ℕ → Type 0
Own p c = (c ≡ p.0) ⊎ (c ≡ p.1)

own_ordered : (p : ℕ × ℕ) (c : ℕ) → Own p c → Own (ordered p) c
own_ordered p c own =
    elim (leb_tells p.0 p.1) [
      | inl l ↦
          let low : min p.0 p.1 ≡ p.0 = omega (arith, l.1) in
          let high : max p.0 p.1 ≡ p.1 = omega (arith, l.1) in
          elim own [ inl e ↦ inl (e ∙ sym low) | inr e ↦ inr (e ∙ sym high) ]
      | inr l ↦
          let low : min p.0 p.1 ≡ p.1 = omega (arith, l.1) in
          let high : max p.0 p.1 ≡ p.0 = omega (arith, l.1) in
          elim own [ inl e ↦ inr (e ∙ sym high) | inr e ↦ inl (e ∙ sym low) ]
    ]

own_again : (p : ℕ × ℕ) (c : ℕ) → Own (ordered p) c → Own p c
own_again p c own =
    elim (leb_tells p.0 p.1) [
      | inl l ↦
          let low : min p.0 p.1 ≡ p.0 = omega (arith, l.1) in
          let high : max p.0 p.1 ≡ p.1 = omega (arith, l.1) in
          elim own [ inl e ↦ inl (e ∙ low) | inr e ↦ inr (e ∙ high) ]
      | inr l ↦
          let low : min p.0 p.1 ≡ p.1 = omega (arith, l.1) in
          let high : max p.0 p.1 ≡ p.0 = omega (arith, l.1) in
          elim own [ inl e ↦ inr (e ∙ low) | inr e ↦ inl (e ∙ high) ]
    ]

all_ordered : (ps : List (ℕ × ℕ)) (cs : List ℕ) → AreOwn ps cs → AreOwn (map ordered ps) cs
all_ordered [] [] own = tt
all_ordered [] (c ∷ cs) own = absurd own
all_ordered (p ∷ ps) [] own = absurd own
all_ordered (p ∷ ps) (c ∷ cs) own = (own_ordered p c own.0, all_ordered ps cs own.1)

all_again : (ps : List (ℕ × ℕ)) (cs : List ℕ) → AreOwn (map ordered ps) cs → AreOwn ps cs
all_again [] [] own = tt
all_again [] (c ∷ cs) own = absurd own
all_again (p ∷ ps) [] own = absurd own
all_again (p ∷ ps) (c ∷ cs) own = (own_again p c own.0, all_again ps cs own.1)

-- ---- the pairs

length-own : (ps : List (ℕ × ℕ)) (cs : List ℕ) → AreOwn ps cs → length cs ≡ length ps
length-own [] [] own = omega arith
length-own [] (c ∷ cs) own = absurd own
length-own (p ∷ ps) [] own = absurd own
length-own (p ∷ ps) (c ∷ cs) own = omega (arith, length-own ps cs own.1)

own_at : (ps : List (ℕ × ℕ)) (cs : List ℕ) (i : ℕ) (d : ℕ × ℕ) (e : ℕ) → AreOwn ps cs → i < length ps → Own (get_or ps i d) (get_or cs i e)
own_at [] cs i d e own l = absurd (omega arith)
own_at (p ∷ ps) [] i d e own l = absurd own
own_at (p ∷ ps) (c ∷ cs) zero d e own l = own.0
own_at (p ∷ ps) (c ∷ cs) (suc i) d e own l = own_at ps cs i d e own.1 (omega arith)

own_set : (ps : List (ℕ × ℕ)) (cs : List ℕ) (i : ℕ) (p : ℕ × ℕ) (c : ℕ) → AreOwn ps cs → Own p c → AreOwn (set ps i p) (set cs i c)
own_set [] [] i p c own new = tt
own_set [] (b ∷ cs) i p c own new = absurd own
own_set (q ∷ ps) [] i p c own new = absurd own
own_set (q ∷ ps) (b ∷ cs) zero p c own new = (new, own.1)
own_set (q ∷ ps) (b ∷ cs) (suc i) p c own new = (own.0, own_set ps cs i p c own.1 new)

own_swap : (ps : List (ℕ × ℕ)) (cs : List ℕ) (i j : ℕ) → i < length ps → j < length ps → AreOwn ps cs → AreOwn (swap ps i j) (swap cs i j)
own_swap [] cs i j a b own = absurd (omega arith)
own_swap (p ∷ ps) [] i j a b own = absurd own
own_swap (p ∷ ps) (c ∷ cs) i j a b own =
    own_set (set (p ∷ ps) i (get_or (p ∷ ps) j p)) (set (c ∷ cs) i (get_or (c ∷ cs) j c)) j (get_or (p ∷ ps) i p) (get_or (c ∷ cs) i c)
    (own_set (p ∷ ps) (c ∷ cs) i (get_or (p ∷ ps) j p) (get_or (c ∷ cs) j c) own (own_at (p ∷ ps) (c ∷ cs) j p c own b))
    (own_at (p ∷ ps) (c ∷ cs) i p c own a)

placed_swapped : (buckets depth : ℕ) (ps : List (ℕ × ℕ)) (i j : ℕ) → i < length ps → j < length ps → HasPlacement buckets depth ps → HasPlacement buckets depth (swap ps i j)
placed_swapped buckets depth ps i j a b placed =
    let cs = placed.0 in
    let long : length cs ≡ length ps = length-own ps cs placed.1.own in
    let moved : IsPermutation cs (swap cs i j) = IsPermutation-swap cs (swap cs i j) i j (omega arith) (omega arith) refl in (
      swap cs i j,
      record {
        own = own_swap ps cs i j a b placed.1.own;
        within = λ c l. omega (arith, placed.1.within c l, sum_by-IsPermutation (λ d. cond (d == c) 1 0) cs (swap cs i j) moved);
      },
    )

pub placed_in_any_order : PlacedInAnyOrder
placed_in_any_order buckets depth ps qs same placed =
    let start : HasPlacement buckets depth (map ordered ps) = (placed.0, record { own = all_ordered ps placed.0 placed.1.own; within = placed.1.within }) in
    let moved : HasPlacement buckets depth (map ordered qs) =
    IsPermutation-keeps (map ordered ps) (HasPlacement buckets depth) start (λ rs i j a b h. placed_swapped buckets depth rs i j a b h) (map ordered qs) same in
    (moved.0, record { own = all_again qs moved.0 moved.1.own; within = moved.1.within })
