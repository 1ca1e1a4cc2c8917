-- What a search sees of a table, kept as one run of slots.
use Rattle.std.specs.Prelude.{◌≡◌, ℕ, zero, suc, ◌*◌, ◌≤◌, Bool, cond, List, [], ◌∷◌, length, map, take}
use Rattle.std.specs.Prelude.{drop, position, Option, Some, None, is_none, slice_set}
use Rattle.tk_place.specs.Place.{Others, Spot, slots_of}

-- a run cut into so many buckets of so many slots
abbrev pub rows : ℕ → ℕ → List (Option ℕ) → Others
rows zero depth run = []
rows (suc buckets) depth run = take depth run ∷ rows buckets depth (drop depth run)

-- the slot at a place has another entry, or none
abbrev pub with_other : Others → Spot → Option ℕ → Others
with_other T at other = slice_set T at.0 (slice_set (slots_of T at.0) at.1 other)

-- a run has as many slots as the buckets together, which are in range
pub record IsRun (buckets depth count : ℕ) : Type 0 where
  pub all : count ≡ buckets * depth
  pub wide : buckets ≤ 16384
  pub deep : depth ≤ 8

-- a slot that is in use has the other bucket of its entry
abbrev pub slots_in : List ℕ → List Bool → List (Option ℕ)
slots_in [] used = []
slots_in (other ∷ others) [] = []
slots_in (other ∷ others) (is_used ∷ used) =
    cond is_used (Some other) None ∷ slots_in others used

-- none of these slots is empty
abbrev pub is_full : List (Option ℕ) → Bool
is_full slots = is_none (position is_none slots)

-- Beside the other buckets it is said of each slot whether it is in use, and of each bucket whether it is full.
pub record IsIndex (buckets depth : ℕ) (others : List ℕ) (used marks : List Bool) : Type 0 where
  pub run : IsRun buckets depth (length others)
  pub beside : length used ≡ length others
  pub marked : marks ≡ map is_full (rows buckets depth (slots_in others used))
