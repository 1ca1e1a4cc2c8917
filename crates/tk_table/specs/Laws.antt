-- What the table is for.
use Rattle.std.specs.Prelude.{◌≡◌, ◌↔◌, ℕ, ◌^◌, ◌<◌, ◌≤◌, ◌⊎◌, List, [], ◌∷◌, ◌++◌, length, map}
use Rattle.std.specs.Prelude.{filter, flat_map, slice_index_or, not, true, Option, None, All}
use Rattle.std.specs.List.{AllByRecursion, list_all}
use Rattle.std.specs.List.Sorted.{IsPermutation}
use Rattle.tk_shape.specs.declared.shape.Shape.{Shape}
use Rattle.tk_shape.specs.Lengths.{width}
use Rattle.tk_frames.specs.Order.{Record}
use Rattle.tk_frames.specs.Lists.{first_some}
use Rattle.tk_table.specs.Ordered.{AscendFrom, AreOrdered}
use Rattle.tk_place.specs.Place.{search_end}
use Rattle.tk_table.specs.Table.{pair_in, window, has_position, retained, is_displaced, Slot}
use Rattle.tk_table.specs.Table.{slot_of, empty_slot, is_empty, SlotTable, bucket_at, others_from}
use Rattle.tk_table.specs.Table.{without_expired, layout, slot_bytes, blocks_of}
use Rattle.tk_frames.specs.Slots.{slots_in, text_among, text_from, text_in}

-- ---- where the retained records lie

-- the entries in a table's slots, bucket by bucket
abbrev pub entries_in : SlotTable → List Slot
entries_in T = flat_map (λ slots. filter (λ s. not (is_empty s)) slots) T

-- a slot of bucket b is empty, all zeros, or has an entry one of whose buckets is b
abbrev pub IsSlotOf : Shape → ℕ → Slot → Type 0
IsSlotOf shape b s = (s ≡ empty_slot shape) ⊎ ((1 ≤ s.position) × ((s.first ≡ b) ⊎ (s.second ≡ b)))

-- The table has its buckets, and each its slots. The entries in them are the records, each once,
-- and each lies in one of its two buckets. All other slots are empty.
pub record IsLaidOut (shape : Shape) (K : List Record) (T : SlotTable) : Type 0 where
  pub wide : length T ≡ shape.buckets
  pub deep : (b : ℕ) → b < shape.buckets → length (bucket_at T b) ≡ shape.depth
  pub entries : IsPermutation (map slot_of K) (entries_in T)
  pub own : (b : ℕ) → All (IsSlotOf shape b) (bucket_at T b)

-- the table has just the retained records
abbrev pub LayoutHolds : Type 0
LayoutHolds =
    (shape : Shape) (R : List Record) → AreOrdered shape R
    → IsLaidOut shape (retained shape R) (layout shape R)

-- what is left of the table when w comes after R
abbrev pub left_for : Shape → List Record → Record → SlotTable
left_for shape R w = without_expired shape (window shape (R ++ w ∷ [])) (layout shape R)

-- a write is displaced exactly where the search over what is left of the table has no end
abbrev pub DisplacedWithoutEnd : Type 0
DisplacedWithoutEnd =
    (shape : Shape) (R : List Record) (w : Record) → AreOrdered shape (R ++ w ∷ [])
    → (search_end (others_from 0 (left_for shape R w)) (pair_in w) ≡ None)
    ↔ (is_displaced shape R w ≡ true)

-- what is retained is in the order of the records
abbrev pub RetainedAscends : Type 0
RetainedAscends =
    (shape : Shape) (p : ℕ) (R : List Record) → AscendFrom p R → AscendFrom p (retained shape R)

-- what is retained is in the window
abbrev pub RetainedInWindow : Type 0
RetainedInWindow =
    (shape : Shape) (R : List Record)
    → list_all (λ r. has_position (window shape R) r.position) (retained shape R) ≡ true

-- ---- what is read

-- the text that the slots of a pair's two buckets give
abbrev pub text_at : ℕ × ℕ → (List ℕ → Option (List ℕ)) → SlotTable → Option (List ℕ)
text_at pair opens T = text_among pair opens (bucket_at T pair.0 ++ bucket_at T pair.1)

-- The earliest text that the slots of a pair's two buckets give is the one that the earliest
-- retained record gives.
abbrev pub AsWritten : Type 0
AsWritten =
    (shape : Shape) (R : List Record) (pair : ℕ × ℕ) (opens : List ℕ → Option (List ℕ))
    → AreOrdered shape R
    → text_at pair opens (layout shape R) ≡ first_some (text_in pair opens) (retained shape R)

-- ---- the bytes

-- a slot whose numbers fit their bytes, and whose block has the shape's length
pub record IsSpellable (shape : Shape) (s : Slot) : Type 0 where
  pub position : s.position < 2 ^ 64
  pub first : s.first < 2 ^ 32
  pub second : s.second < 2 ^ 32
  pub block : length s.block ≡ shape.block

-- bytes of a bucket's width, from which these slots are read
pub record IsSpelling (shape : Shape) (slots : List Slot) (bytes : List ℕ) : Type 0 where
  pub long : length bytes ≡ width shape
  pub again : slots_in shape bytes ≡ slots

-- the slots of a bucket are read from its bytes again
abbrev pub SlotsReadBack : Type 0
SlotsReadBack =
    (shape : Shape) (slots : List Slot)
    → length slots ≡ shape.depth → AllByRecursion (IsSpellable shape) slots
    → IsSpelling shape slots (flat_map slot_bytes slots)

-- a record whose position fits its bytes, and whose block has the shape's length
pub record IsStorable (shape : Shape) (r : Record) : Type 0 where
  pub position : r.position < 2 ^ 64
  pub block : length r.write.block ≡ shape.block

-- the bytes of a bucket
abbrev pub block_at : SlotTable → ℕ → List ℕ
block_at T b = slice_index_or (blocks_of T) b []

-- each bucket is read from its bytes again
abbrev pub BucketsReadBack : Type 0
BucketsReadBack =
    (shape : Shape) (R : List Record) (b : ℕ)
    → AreOrdered shape R → AllByRecursion (IsStorable shape) R → b < shape.buckets
    → IsSpelling shape (bucket_at (layout shape R) b) (block_at (layout shape R) b)

-- The earliest text that the bytes of a pair's two buckets give is the one that the earliest
-- retained record gives.
abbrev pub AsRead : Type 0
AsRead =
    (shape : Shape) (R : List Record) (pair : ℕ × ℕ) (opens : List ℕ → Option (List ℕ))
    → AreOrdered shape R → AllByRecursion (IsStorable shape) R
    → pair.0 < shape.buckets → pair.1 < shape.buckets
    → text_from shape pair opens
    (block_at (layout shape R) pair.0) (block_at (layout shape R) pair.1)
    ≡ first_some (text_in pair opens) (retained shape R)
