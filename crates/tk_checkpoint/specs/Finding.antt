-- Which positions of a window were found in slots.
use Rattle.std.specs.Prelude.{◌≡◌, ◌≢◌, ℕ, ◌<◌, Bool, List, map, length, slice_index_or, Option, Some, None}
use Rattle.tk_table.specs.Table.{Slot}
use Rattle.tk_checkpoint.specs.Sound.{has_slot}

-- beside each position, whether one of these slots has it
abbrev pub flags : List ℕ → List Slot → List Bool
flags positions slots = map (has_slot slots) positions

-- a place in the list has the position; where there is none, no place has it
abbrev pub IsPlaceOf : List ℕ → ℕ → Option ℕ → Type 0
IsPlaceOf positions position (Some i) =
    (i < length positions) × (slice_index_or positions i 0 ≡ position)
IsPlaceOf positions position None =
    (i : ℕ) → i < length positions → slice_index_or positions i 0 ≢ position
