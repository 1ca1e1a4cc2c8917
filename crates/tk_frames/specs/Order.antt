-- The writes of an order, and those that stand before a mark.
use Rattle.std.specs.Prelude.{ℕ, zero, suc, List, [], ◌∷◌, ◌==◌, Bool, true, false, Option, Some, None, filter_map, cond}
use Rattle.std.specs.List.{list_any}
use Rattle.tk_frames.specs.declared.write_frame.WriteFrame.{WriteFrame}
use Rattle.tk_frames.specs.declared.entry.Placed.{Placed}
use Rattle.tk_frames.specs.declared.entry.Entry.{Entry}
use Rattle.tk_frames.specs.declared.entry.Entry.TheVariants.{Write, Mark}

-- a write with its position
pub record Record : Type 0 where
  pub position : ℕ
  pub write : WriteFrame

-- the record that an entry is, if it is one
abbrev pub record_at : ℕ → Entry → Option Record
record_at position (Write w) = Some (record { position = position; write = w })
record_at position (Mark e) = None

abbrev pub record_in : Placed → Option Record
record_in p = record_at p.position p.entry

-- whether an entry is a mark, and whether it is mark e
abbrev pub is_mark : Entry → Bool
is_mark (Write w) = false
is_mark (Mark e) = true

abbrev pub is_mark_entry : Placed → Bool
is_mark_entry p = is_mark p.entry

abbrev pub is_mark_numbered : ℕ → Entry → Bool
is_mark_numbered e (Write w) = false
is_mark_numbered e (Mark n) = n == e

abbrev pub is_mark_of : ℕ → Placed → Bool
is_mark_of e p = is_mark_numbered e p.entry

-- whether mark e stands in an order
abbrev pub has_mark : ℕ → List Placed → Bool
has_mark e E = list_any (is_mark_of e) E

-- an order's writes
abbrev pub records : List Placed → List Record
records E = filter_map record_in E

-- what stands before mark e
abbrev pub up_to_mark : ℕ → List Placed → List Placed
up_to_mark e [] = []
up_to_mark e (p ∷ ps) = cond (is_mark_of e p) [] (p ∷ up_to_mark e ps)

-- the writes that stand before mark e; there is no mark 0, and nothing stands before it
unfoldable pub before : List Placed → ℕ → List Record
before E zero = []
before E (suc e) = records (up_to_mark (suc e) E)
