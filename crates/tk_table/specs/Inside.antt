-- The insides of a table.
use Rattle.std.specs.Prelude.{◌≡◌, ℕ, ◌<◌, ◌≤◌, ◌⊎◌, nat_lt, cond, true, List, [], ◌∷◌, length}
use Rattle.std.specs.Prelude.{All, ◌==◌, Option, Some, None}
use Rattle.tk_shape.specs.declared.shape.Shape.{Shape}
use Rattle.tk_bucket.specs.Table.{Contents}
use Rattle.tk_table.specs.Table.{Slot, SlotTable, bucket_at, empty_slot, is_empty}
use Rattle.tk_table.specs.Stands.{Kept, IsPair}
use Rattle.tk_table.specs.Steps.{cleared_all}

-- the slots of a table with its shape
pub record Laid : Type 0 where
  pub shape : Shape
  pub slots : SlotTable

-- an entry of the shape's buckets, of which b is one
pub record IsEntryOf (shape : Shape) (b : ℕ) (s : Slot) : Type 0 where
  pub position : 1 ≤ s.position
  pub first : s.first < shape.buckets
  pub second : s.second < shape.buckets
  pub own : (s.first ≡ b) ⊎ (s.second ≡ b)

-- a slot of bucket b is empty, all zeros, or has an entry of that bucket
abbrev pub IsSlotIn : Shape → ℕ → Slot → Type 0
IsSlotIn shape b s = (s ≡ empty_slot shape) ⊎ IsEntryOf shape b s

-- the buckets have the sizes of the shape, and each entry is in one of its two buckets
pub record IsGrid (shape : Shape) (c : Contents) : Type 0 where
  pub buckets : c.buckets ≡ shape.buckets
  pub depth : c.depth ≡ shape.depth
  pub block : c.block ≡ shape.block
  pub wide : length c.table ≡ shape.buckets
  pub deep : (b : ℕ) → b < shape.buckets → length (bucket_at c.table b) ≡ shape.depth
  pub own : (b : ℕ) → All (IsSlotIn shape b) (bucket_at c.table b)

-- ---- what is kept beside the slots

-- room for so many writes, and the positions and the buckets of the latest, the oldest first
pub record LatestWrites : Type 0 where
  pub room : ℕ
  pub positions : List ℕ
  pub pairs : List (ℕ × ℕ)

-- Two runs of as many, of which those before the start have left. Neither outgrows its room.
pub record IsLatest (start most count others capacity other_capacity : ℕ) : Type 0 where
  pub left : start ≤ count
  pub beside : others ≡ count
  pub within : count ≤ most
  pub space : most ≤ capacity
  pub other_space : most ≤ other_capacity

-- the buckets that are kept beside a position
abbrev pub pair_beside : List ℕ → List (ℕ × ℕ) → ℕ → Option (ℕ × ℕ)
pair_beside [] pairs position = None
pair_beside (p ∷ ps) [] position = None
pair_beside (p ∷ ps) (q ∷ qs) position = cond (position == p) (Some q) (pair_beside ps qs position)

-- a slot is empty, or its entry's buckets are kept beside its position
abbrev pub IsKnown : List ℕ → List (ℕ × ℕ) → Slot → Type 0
IsKnown positions pairs s =
    (is_empty s ≡ true) ⊎ (pair_beside positions pairs s.position ≡ Some (s.first, s.second))

-- each slot has this
abbrev pub EachHas : (Slot → Type 0) → SlotTable → Type 0
EachHas P T = (b : ℕ) → All P (bucket_at T b)

-- room for a search, and for the latest writes; their buckets are known
pub record IsKept (shape own : Shape) (places : ℕ) (slots : SlotTable) (latest : LatestWrites)
    : Type 0 where
  pub same : own ≡ shape
  pub whole : places ≡ shape.buckets
  pub space : shape.retained ≤ latest.room
  pub few : length latest.positions ≤ shape.retained
  pub beside : length latest.pairs ≡ length latest.positions
  pub pairs : All (IsPair shape) latest.pairs
  pub known : EachHas (IsKnown latest.positions latest.pairs) slots

-- an entry with this position has these buckets
abbrev pub HasPair : ℕ → ℕ × ℕ → Slot → Type 0
HasPair position pair s =
    s.position ≡ position → (is_empty s ≡ true) ⊎ ((s.first, s.second) ≡ pair)

-- a table whose latest writes have these positions, without the first of them
abbrev pub without_first : Kept → List ℕ → Kept
without_first t [] = t
without_first t (p ∷ ps) =
    record {
      shape = t.shape;
      slots = cleared_all t.shape.block p t.slots;
      positions = ps;
    }

-- a table with room for one more write
abbrev pub with_room : Kept → Kept
with_room t =
    cond (nat_lt (length t.positions) t.shape.retained) t (without_first t t.positions)
