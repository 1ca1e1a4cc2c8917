-- One more number of a range, and what it gives.
use Rattle.std.proofs.Common.{◌≡◌, ℕ, ◌+◌, List, [], ◌∷◌, ◌++◌, flat_map, ap, sym, ◌∙◌, append-nil}
use Rattle.std.specs.List.{range_with_len}
use Rattle.std.proofs.lemmas.Grind.{flat_map-append}
use Rattle.std.proofs.lemmas.List.{map-id}
use Rattle.std.proofs.lemmas.List.FromFn.{map-range_with_len_more}
use Rattle.std.proofs.Math.Nat.{zero-add}

pub range-more : (a n j : ℕ) → a + n ≡ j → range_with_len a (n + 1) ≡ range_with_len a n ++ j ∷ []
range-more a n j is =
    sym (map-id (range_with_len a (n + 1)))
    ∙ map-range_with_len_more {X = ℕ} (λ k. k) a n j is
    ∙ ap (λ (ks : List ℕ). ks ++ j ∷ []) (map-id (range_with_len a n))

-- the numbers from 0 on
pub numbers-more : (n : ℕ) → range_with_len 0 (n + 1) ≡ range_with_len 0 n ++ n ∷ []
numbers-more n = range-more 0 n n (zero-add n)

-- what one more number gives stands after what the ones before it gave
pub flat_map-range_more : {A : Type 0} (f : ℕ → List A) (a n j : ℕ) → a + n ≡ j →
    flat_map f (range_with_len a (n + 1)) ≡ flat_map f (range_with_len a n) ++ f j
flat_map-range_more {A} f a n j is =
    ap (flat_map f) (range-more a n j is)
    ∙ flat_map-append f (range_with_len a n) (j ∷ [])
    ∙ ap (λ (xs : List A). flat_map f (range_with_len a n) ++ xs) (append-nil (f j))
