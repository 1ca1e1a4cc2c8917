-- Pages that become shared, one after the other.
use Rattle.std.proofs.Common.{◌≡◌, ℕ, ◌+◌, ◌<◌, ◌≤◌, Bool, true, false, List, [], ◌∷◌, ◌++◌, map, length, get_or, set, take, replicate, refl, sym, ap, ap₂, ◌∙◌, arith, add-one}
use Rattle.std.proofs.Math.Seq.{map-set_same, take-suc}
use Rattle.std.proofs.lemmas.List.{length-map, map-set, get_or-map, take_more_set}
use Rattle.std.proofs.lemmas.List.Sums.{sum_by-set}
use Rattle.std.proofs.lemmas.Grind.{replicate_next}
use Rattle.tk_bucket.specs.declared.held.Held.{Held}
use Rattle.tk_bucket.specs.Paging.{shared_count, one_if}
use Rattle.tk_bucket.specs.Holding.{held_bytes, is_shared}

one_if-le : (a b : Bool) → (a ≡ true → b ≡ true) → one_if a ≤ one_if b
one_if-le false b h = omega arith
one_if-le true b h = rw (h refl) (omega arith)

module _ (held : List Held) (i : ℕ) (h h' : Held) (lt : i < length held) (there : h ≡ get_or held i h) (same : held_bytes h' ≡ held_bytes h) where
  pub share_bytes : map held_bytes (set held i h') ≡ map held_bytes held
  share_bytes = map-set_same held_bytes held i h' h (same ∙ ap held_bytes there)

  pub share_grown : (is_shared h ≡ true → is_shared h' ≡ true) → shared_count (map is_shared held) ≤ shared_count (map is_shared (set held i h'))
  share_grown grown =
      let flags = map is_shared held in
      let at : get_or flags i false ≡ is_shared h = get_or-map is_shared held i h false lt ∙ ap is_shared (sym there) in
      let sum : shared_count (set flags i (is_shared h')) + one_if (get_or flags i false) ≡ shared_count flags + one_if (is_shared h') =
      sum_by-set one_if flags i (is_shared h') false (omega (arith, lt, length-map held is_shared)) in
      let sum' : shared_count (set flags i (is_shared h')) + one_if (is_shared h) ≡ shared_count flags + one_if (is_shared h') =
      ap (λ s. shared_count (set flags i (is_shared h')) + one_if s) (sym at) ∙ sum in
      rw (map-set is_shared held i h') (omega (arith, sum', one_if-le (is_shared h) (is_shared h') grown))

  pub share_shared : is_shared h' ≡ true → take i (map is_shared held) ≡ replicate i true → take (i + 1) (map is_shared (set held i h')) ≡ replicate (i + 1) true
  share_shared now before =
      ap (take (i + 1)) (map-set is_shared held i h')
      ∙ take_more_set (map is_shared held) i (is_shared h') (omega (arith, lt, length-map held is_shared))
      ∙ ap₂ (λ bs b. bs ++ b ∷ []) before now
      ∙ sym (replicate_next i true)

-- one more of a list
pub take_next : (xs ys : List (List ℕ)) (i : ℕ) (y : List ℕ) → i < length xs → ys ≡ take i xs → y ≡ get_or xs i [] → ys ++ y ∷ [] ≡ take (i + 1) xs
take_next xs ys i y lt e at = ap₂ (λ zs z. zs ++ z ∷ []) e at ∙ sym (ap (λ n. take n xs) (add-one i) ∙ take-suc xs i [] lt)
