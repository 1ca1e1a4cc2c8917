-- What a table is seen as, and the records that it stands for.
use Rattle.std.specs.Prelude.{◌≡◌, ◌<◌, ℕ, List, map}
use Rattle.tk_shape.specs.declared.shape.Shape.{Shape}
use Rattle.tk_frames.specs.Order.{Record}
use Rattle.tk_table.specs.Table.{Slot, SlotTable, window, layout}

-- a table's shape, its slots, and the positions of the latest writes, the oldest first
pub record Kept : Type 0 where
  pub shape : Shape
  pub slots : SlotTable
  pub positions : List ℕ

abbrev pub position_of : Record → ℕ
position_of r = r.position

-- the slots are the layout of these records, and the positions are those of the window
pub record TableStandsFor (table : Kept) (R : List Record) : Type 0 where
  pub slots : table.slots ≡ layout table.shape R
  pub positions : table.positions ≡ map position_of (window table.shape R)

-- a pair of the shape's buckets
abbrev pub IsPair : Shape → ℕ × ℕ → Type 0
IsPair shape pair = (pair.0 < shape.buckets) × (pair.1 < shape.buckets)

-- the slot of a write with this position, these buckets and this block
abbrev pub slot_with : ℕ → ℕ × ℕ → List ℕ → Slot
slot_with position pair block =
    record { position = position; first = pair.0; second = pair.1; block = block }

-- a record with this position, these buckets and this block
pub record IsWrite (w : Record) (at : ℕ) (pair : ℕ × ℕ) (bytes : List ℕ) : Type 0 where
  pub position : w.position ≡ at
  pub first : w.write.first ≡ pair.0
  pub second : w.write.second ≡ pair.1
  pub block : w.write.block ≡ bytes
