-- The pairs of buckets that entries have, and what a placement of them is.
use Rattle.std.specs.Prelude.{◌≡◌, ℕ, suc, ◌<◌, ◌≤◌, ◌==◌, ◌⊎◌, ◌↔◌, true, List, [], ◌∷◌, ◌++◌}
use Rattle.std.specs.Prelude.{map, min, max, count_by, IsPermutation, Option, Some, None}
use Rattle.tk_place.specs.Place.{Others, fit}

-- the pairs of the entries in a bucket's slots: that bucket and the other one
abbrev pub pairs_in : ℕ → List (Option ℕ) → List (ℕ × ℕ)
pairs_in b [] = []
pairs_in b (None ∷ ss) = pairs_in b ss
pairs_in b (Some other ∷ ss) = (b, other) ∷ pairs_in b ss

-- of all entries in these buckets, the first of which has number b
abbrev pub pairs_from : ℕ → Others → List (ℕ × ℕ)
pairs_from b [] = []
pairs_from b (ss ∷ T) = pairs_in b ss ++ pairs_from (suc b) T

-- the new entry's pair, and those of all entries
abbrev pub pairs_with : Others → ℕ × ℕ → List (ℕ × ℕ)
pairs_with T new = new ∷ pairs_from 0 T

-- each pair is given one of its own two buckets
abbrev pub AreOwn : List (ℕ × ℕ) → List ℕ → Type 0
AreOwn [] [] = Unit {0}
AreOwn [] (b ∷ bs) = ⊥
AreOwn (p ∷ ps) [] = ⊥
AreOwn (p ∷ ps) (b ∷ bs) = ((b ≡ p.0) ⊎ (b ≡ p.1)) × AreOwn ps bs

-- each entry in one of its own two buckets, and no bucket above its depth
pub record IsPlacement (buckets depth : ℕ) (pairs : List (ℕ × ℕ)) (places : List ℕ) : Type 0 where
  pub own : AreOwn pairs places
  pub within : (b : ℕ) → b < buckets → count_by (λ c. c == b) places ≤ depth

abbrev pub HasPlacement : ℕ → ℕ → List (ℕ × ℕ) → Type 0
HasPlacement buckets depth pairs = (places : List ℕ) × IsPlacement buckets depth pairs places

-- pairs fit exactly where they have a placement
abbrev pub FitsByPlacements : Type 0
FitsByPlacements =
    (buckets depth : ℕ) (pairs : List (ℕ × ℕ))
    → (fit buckets depth pairs ≡ true) ↔ HasPlacement buckets depth pairs

-- a pair with its lesser bucket first
abbrev pub ordered : ℕ × ℕ → ℕ × ℕ
ordered p = (min p.0 p.1, max p.0 p.1)

-- Pairs have a placement where others have one that are the same but for their order, and that of the buckets in each.
abbrev pub PlacedInAnyOrder : Type 0
PlacedInAnyOrder =
    (buckets depth : ℕ) (ps qs : List (ℕ × ℕ)) → IsPermutation (map ordered ps) (map ordered qs)
    → HasPlacement buckets depth ps → HasPlacement buckets depth qs
