-- What moves along a chain of slots do to a table.
use Rattle.std.specs.Prelude.{◌≡◌, ℕ, ◌<◌, false, true, List, [], ◌∷◌, slice_index_or, slice_set, cond, map, ◌==◌}
use Rattle.tk_place.specs.Place.{Spot}
use Rattle.tk_place.specs.Chain.{is_on}
use Rattle.tk_bucket.specs.Table.{Slot, SlotTable, bucket_at, slot_at, is_empty, empty_slot}
use Rattle.tk_table.specs.Table.{shifted}

-- each is a slot of one of these buckets, and no bucket comes twice
abbrev pub AreSteps : ℕ → ℕ → List Spot → Type 0
AreSteps buckets depth [] = Unit {0}
AreSteps buckets depth (s ∷ ss) =
    (s.0 < buckets) × (s.1 < depth) × (is_on ss s.0 ≡ false) × AreSteps buckets depth ss

-- the first of these slots
abbrev pub first_of : List Spot → Spot
first_of steps = slice_index_or steps 0 (0, 0)

-- it is empty
abbrev pub IsFree : SlotTable → Spot → Type 0
IsFree T at = is_empty (slot_at T at) ≡ true

-- of these slots the first is free
abbrev pub moved_by : SlotTable → List Spot → Slot → SlotTable
moved_by T [] s = T
moved_by T (free ∷ ats) s = shifted T free ats s

-- ---- what leaves

-- a slot is emptied if its entry has this position
abbrev pub cleared : ℕ → ℕ → Slot → Slot
cleared block position s = cond (s.position == position) (empty_slot block) s

-- so are all slots of bucket b
abbrev pub cleared_in : ℕ → ℕ → SlotTable → ℕ → SlotTable
cleared_in block position T b = slice_set T b (map (cleared block position) (bucket_at T b))

-- and those of two buckets
abbrev pub cleared_of : ℕ → ℕ → ℕ × ℕ → SlotTable → SlotTable
cleared_of block position pair T =
    cleared_in block position (cleared_in block position T pair.0) pair.1

-- and all that there are
abbrev pub cleared_all : ℕ → ℕ → SlotTable → SlotTable
cleared_all block position T = map (map (cleared block position)) T
