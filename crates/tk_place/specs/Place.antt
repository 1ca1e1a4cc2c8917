-- Whether entries can be placed at all, and the search for a place.
use Rattle.std.specs.Prelude.{ℕ, zero, suc, ◌+◌, ◌==◌, nat_le, Bool, ◌||◌, cond, is_none, is_some}
use Rattle.std.specs.Prelude.{List, [], ◌∷◌, ◌++◌, length, replicate, slice_index, slice_set}
use Rattle.std.specs.Prelude.{slice_index_or, flat_map, find, position, Option, Some, None}
use Rattle.std.specs.List.{list_all, list_any}

-- ---- whether a placement exists

-- one more entry in a bucket
abbrev pub one_more : List ℕ → ℕ → List ℕ
one_more counts b = slice_set counts b (slice_index counts b + 1)

-- Each pair can go to one of its two buckets, over what each bucket has already, so that none is above depth.
unfoldable pub is_placeable : ℕ → List ℕ → List (ℕ × ℕ) → Bool
is_placeable depth counts [] = list_all (λ n. nat_le n depth) counts
is_placeable depth counts (p ∷ ps) =
    let in_second = is_placeable depth (one_more counts p.1) ps in
    is_placeable depth (one_more counts p.0) ps || in_second

-- the pairs have a placement in this many empty buckets
abbrev pub fit : ℕ → ℕ → List (ℕ × ℕ) → Bool
fit buckets depth pairs = is_placeable depth (replicate buckets 0) pairs

-- ---- the search

-- what the search sees: for each bucket its slots, each empty or with the other bucket of its entry
abbrev pub Others : Type 0
Others = List (List (Option ℕ))

-- a bucket and a slot of it
abbrev pub Spot : Type 0
Spot = ℕ × ℕ

-- a bucket, and the slots through which it was reached, the nearest first: the entry of each could go to the one
-- before it
pub record Reached : Type 0 where
  pub bucket : ℕ
  pub through : List Spot

abbrev pub slots_of : Others → ℕ → List (Option ℕ)
slots_of T b = slice_index_or T b []

-- the lowest empty slot of a bucket
abbrev pub lowest_empty : Others → ℕ → Option ℕ
lowest_empty T b = position is_none (slots_of T b)

abbrev pub has_bucket : List Reached → ℕ → Bool
has_bucket places b = list_any (λ p. b == p.bucket) places

-- what the entries of a bucket's slots name, from slot i on
abbrev pub named_in : Reached → ℕ → List (Option ℕ) → List Reached
named_in from i [] = []
named_in from i (None ∷ ss) = named_in from (i + 1) ss
named_in from i (Some other ∷ ss) =
    record { bucket = other; through = (from.bucket, i) ∷ from.through } ∷ named_in from (i + 1) ss

-- those that stand in no earlier place, neither among the places before nor further ahead in the list
abbrev pub not_before : List Reached → List Reached → List Reached
not_before before [] = []
not_before before (p ∷ ps) = cond (has_bucket before p.bucket) (not_before before ps) (p ∷ not_before (p ∷ before) ps)

-- level 0: the buckets of the new entry
abbrev pub first_level : ℕ × ℕ → List Reached
first_level pair =
    let first : Reached = record { bucket = pair.0; through = [] } in
    let second : Reached = record { bucket = pair.1; through = [] } in
    not_before [] (first ∷ second ∷ [])

-- the level after one: what its buckets' entries name
abbrev pub next_level : Others → List Reached → List Reached → List Reached
next_level T before level = not_before before (flat_map (λ p. named_in p 0 (slots_of T p.bucket)) level)

-- a level and the n levels after it, in a row
unfoldable pub levels_from : Others → ℕ → List Reached → List Reached → List Reached
levels_from T zero before level = level
levels_from T (suc n) before level =
    let next = next_level T before level in
    level ++ levels_from T n (before ++ next) next

-- every bucket that is reached, in its order; there are no more levels than buckets
abbrev pub reached : Others → ℕ × ℕ → List Reached
reached T pair = levels_from T (length T) (first_level pair) (first_level pair)

-- the first bucket reached that has an empty slot
unfoldable pub search_end : Others → ℕ × ℕ → Option Reached
search_end T pair = find (λ p. is_some (lowest_empty T p.bucket)) (reached T pair)
