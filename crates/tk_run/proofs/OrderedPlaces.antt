-- Elements that have the numbers from one on, each once, in the order of their numbers.
use Rattle.std.proofs.Common.{◌≡◌, refl, ap, ap₂, sym, ◌∙◌, arith, inl, inr, ℕ, zero, suc, ◌+◌, ◌-◌, ◌<◌, ◌≤◌, List, []}
use Rattle.std.proofs.Common.{◌∷◌, length}
use Rattle.std.specs.Prelude.{slice_index_or, sum_by, IsPermutation}
use Rattle.std.specs.List.{range_with_len}
use Rattle.std.specs.List.Sorted.{IsNonDecreasingBy}
use Rattle.std.proofs.lemmas.Bool.{cases_lt}
use Rattle.std.proofs.lemmas.List.Sums.{sum_by-cons}
use Rattle.std.proofs.lemmas.List.Sorted.{sum_by-IsPermutation}

module _ {X : Type 0} (n : X → ℕ) where
  -- their numbers are those of this range, each as often
  pub record Numbers (a m : ℕ) (xs : List X) : Type 0 where
    pub sums : (f : ℕ → ℕ) → sum_by (λ x. f (n x)) xs ≡ sum_by f (range_with_len a m)

  -- whose numbers are so, place by place
  pub numbers-told : (a m : ℕ) (xs : List X) → length xs ≡ m →
      ((k : ℕ) (d : X) → k < length xs → n (slice_index_or xs k d) ≡ a + k) → Numbers a m xs
  numbers-told a zero [] counted each = record { sums = λ f. refl }
  numbers-told a zero (x ∷ xs) counted each = absurd (omega (arith, counted))
  numbers-told a (suc m) [] counted each = absurd (omega (arith, counted))
  numbers-told a (suc m) (x ∷ xs) counted each =
      let here : n x ≡ a = omega (arith, each 0 x (omega arith)) in
      let rest = numbers-told (a + 1) m xs (omega (arith, counted))
      (λ k d low.
      let is : n (slice_index_or xs k d) ≡ a + suc k = each (suc k) d (omega (arith, low)) in
      omega (arith, is))
      in
      record {
        sums = λ f.
            sum_by-cons (λ y. f (n y)) x xs ∙ ap₂ (λ i j. i + j) (ap f here) (rest.sums f)
            ∙ sym (sum_by-cons f a (range_with_len (a + 1) m));
      }

  -- in another order they are the same
  pub numbers-moved : (a m : ℕ) (xs ys : List X) → IsPermutation xs ys → Numbers a m xs →
      Numbers a m ys
  numbers-moved a m xs ys moved h =
      record { sums = λ f. sum_by-IsPermutation (λ x. f (n x)) xs ys moved ∙ h.sums f }

  -- and so they are of others with the same numbers
  same-sums : (f : ℕ → ℕ) (xs ys : List X) → length ys ≡ length xs →
      ((k : ℕ) (d : X) → k < length xs → n (slice_index_or ys k d) ≡ n (slice_index_or xs k d)) →
      sum_by (λ x. f (n x)) ys ≡ sum_by (λ x. f (n x)) xs
  same-sums f [] [] counted each = refl
  same-sums f [] (y ∷ ys) counted each = absurd (omega (arith, counted))
  same-sums f (x ∷ xs) [] counted each = absurd (omega (arith, counted))
  same-sums f (x ∷ xs) (y ∷ ys) counted each =
      let first : n y ≡ n x = each 0 x (omega arith) in
      sum_by-cons (λ z. f (n z)) y ys
      ∙ ap₂ (λ i j. i + j) (ap f first)
      (same-sums f xs ys (omega (arith, counted))
      (λ k d low. each (suc k) d (omega (arith, low))))
      ∙ sym (sum_by-cons (λ z. f (n z)) x xs)

  pub numbers-kept : (a m : ℕ) (xs ys : List X) → length ys ≡ length xs →
      ((k : ℕ) (d : X) → k < length xs → n (slice_index_or ys k d) ≡ n (slice_index_or xs k d)) →
      Numbers a m xs → Numbers a m ys
  numbers-kept a m xs ys counted each h =
      record { sums = λ f. same-sums f xs ys counted each ∙ h.sums f }

  -- ---- in order

  -- nothing below b
  none-below : (b : ℕ) (xs : List X) →
      ((k : ℕ) (d : X) → k < length xs → b ≤ n (slice_index_or xs k d)) →
      sum_by (λ x. b - n x) xs ≡ 0
  none-below b [] above = refl
  none-below b (x ∷ xs) above =
      let here : b ≤ n x = above 0 x (omega arith) in
      let rest = none-below b xs (λ k d low. above (suc k) d (omega (arith, low))) in
      let parts = sum_by-cons (λ y. b - n y) x xs in
      omega (arith, here, rest, parts)

  range-above : (b a m : ℕ) → b ≤ a → sum_by (λ i. b - i) (range_with_len a m) ≡ 0
  range-above b a zero low = refl
  range-above b a (suc m) low =
      let rest = range-above b (a + 1) m (omega (arith, low)) in
      let parts = sum_by-cons (λ i. b - i) a (range_with_len (a + 1) m) in
      omega (arith, low, rest, parts)

  some-counted : (x : X) (xs : List X) → 1 ≤ sum_by (λ y. 1) (x ∷ xs)
  some-counted x xs =
      let parts = sum_by-cons (λ (y : X). 1) x xs in
      omega (arith, parts)

  -- the first has the first number
  first-is : (a m : ℕ) (x : X) (xs : List X) → Numbers a (suc m) (x ∷ xs) →
      IsNonDecreasingBy n (x ∷ xs) → n x ≡ a
  first-is a m x xs h up =
      let low : sum_by (λ y. a - n y) (x ∷ xs) ≡ 0 =
      h.sums (λ i. a - i) ∙ range-above a a (suc m) (omega arith)
      in
      let low_parts = sum_by-cons (λ y. a - n y) x xs in
      let at_least : a ≤ n x = omega (arith, low, low_parts) in
      let range_parts = sum_by-cons (λ i. a + 1 - i) a (range_with_len (a + 1) m) in
      let high = h.sums (λ i. a + 1 - i) in
      elim (cases_lt a (n x)) [
        | inl above ↦
            let none : sum_by (λ y. a + 1 - n y) (x ∷ xs) ≡ 0 =
            none-below (a + 1) (x ∷ xs)
            (λ k d inside.
            let rises : n x ≤ n (slice_index_or (x ∷ xs) k d) = up 0 k d (omega arith) inside in
            omega (arith, above, rises))
            in
            absurd (omega (arith, none, high, range_parts))
        | inr here ↦ omega (arith, here, at_least)
      ]

  -- each has the number of its place
  pub in_places : (a m : ℕ) (xs : List X) → Numbers a m xs → IsNonDecreasingBy n xs →
      (k : ℕ) (d : X) → k < length xs → n (slice_index_or xs k d) ≡ a + k
  in_places a m [] h up k d low = absurd (omega (arith, low))
  in_places a zero (x ∷ xs) h up k d low =
      let some = some-counted x xs in
      let none = h.sums (λ i. 1) in
      absurd (omega (arith, some, none))
  in_places a (suc m) (x ∷ xs) h up zero d low =
      let first = first-is a m x xs h up in
      omega (arith, first)
  in_places a (suc m) (x ∷ xs) h up (suc k) d low =
      let first = first-is a m x xs h up in
      let rest : Numbers (a + 1) m xs = record {
        sums = λ f.
            let all = h.sums f in
            let mine = sum_by-cons (λ y. f (n y)) x xs in
            let theirs = sum_by-cons f a (range_with_len (a + 1) m) in
            let same : f (n x) ≡ f a = ap f first in
            omega (arith, all, mine, theirs, same);
      }
      in
      let is = in_places (a + 1) m xs rest
      (λ i j e below inside.
      up (suc i) (suc j) e (omega (arith, below)) (omega (arith, inside))) k d (omega (arith, low))
      in
      omega (arith, is)
