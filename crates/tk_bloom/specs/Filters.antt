-- The filter of what is worth reading: the positions of all pushes of a window.
use Rattle.std.specs.Prelude.{ℕ, ◌==◌, Bool, false, List, map, flat_map, slice_index_or}
use Rattle.std.specs.List.{list_all, list_any, range_with_len}

-- the positions of all these pushes
abbrev pub positions_of : List (List ℕ) → List ℕ
positions_of pushes = flat_map (λ hits. hits) pushes

-- whether all of these hits are among the positions
abbrev pub is_shown : List ℕ → List ℕ → Bool
is_shown positions hits = list_all (λ h. list_any (λ k. h == k) positions) hits

-- for each position below bits, whether it is among these
abbrev pub marks_of : ℕ → List ℕ → List Bool
marks_of bits positions = map (λ h. list_any (λ k. h == k) positions) (range_with_len 0 bits)

-- whether all of these hits are marked; one past the last mark is not
abbrev pub all_marked : List Bool → List ℕ → Bool
all_marked marks hits = list_all (λ h. slice_index_or marks h false) hits
