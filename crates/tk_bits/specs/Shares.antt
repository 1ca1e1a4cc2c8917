-- Shares of a bucket (Chor, Goldreich, Kushilevitz, Sudan: retrieval by XOR).
use Rattle.std.specs.Prelude.{ℕ, ◌/◌, ◌%◌, ◌^◌, List, [], ◌∷◌, ◌++◌, map, replicate, slice_set, slice_index_or}
use Rattle.tk_kernel.specs.Xor.{xor_bytes, xor_all}

-- the vector of size bytes with bit i alone
abbrev pub unit_vector : ℕ → ℕ → List ℕ
unit_vector size i = slice_set (replicate size 0) (i / 8) (2 ^ (i % 8))

-- the vector that joins with the drawn ones to the unit vector of i
abbrev pub last_share : ℕ → ℕ → List (List ℕ) → List ℕ
last_share size i drawn = xor_bytes (unit_vector size i) (xor_all size drawn)

-- what a server gets for a bucket: a vector, and the seed that it comes with, empty where it comes with none
pub record Share : Type 0 where
  pub seed : List ℕ
  pub vector : List ℕ

abbrev pub share : List ℕ → List ℕ → Share
share s v = record { seed = s; vector = v }

-- drawn vectors, each with the seed of its place
abbrev pub seeded : List (List ℕ) → List (List ℕ) → List Share
seeded seeds [] = []
seeded [] (v ∷ vs) = share [] v ∷ seeded [] vs
seeded (s ∷ seeds) (v ∷ vs) = share s v ∷ seeded seeds vs

-- the drawn vectors, and the one more
abbrev pub completed : ℕ → ℕ → List (List ℕ) → List (List ℕ)
completed size i drawn = drawn ++ last_share size i drawn ∷ []

-- the same with the seeds of the drawn ones; the one more has none
abbrev pub shares : ℕ → ℕ → List (List ℕ) → List (List ℕ) → List Share
shares size i seeds drawn = seeded seeds drawn ++ share [] (last_share size i drawn) ∷ []

-- the vectors of shares, and the share of a place
abbrev pub vectors_in : List Share → List (List ℕ)
vectors_in all = map (λ (s : Share). s.vector) all

abbrev pub share_at : List Share → ℕ → Share
share_at all j = slice_index_or all j (share [] [])
