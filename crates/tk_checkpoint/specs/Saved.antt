-- What a checkpoint has, and the bytes that spell it. Numbers are big-endian.
use Rattle.std.specs.Prelude.{ℕ, ◌+◌, ◌-◌, ◌*◌, List, [], ◌∷◌, ◌++◌, length, map, slice_index}
use Rattle.std.specs.List.{flat_map}
use Rattle.tk_shape.specs.declared.shape.Shape.{Shape}
use Rattle.tk_shape.specs.Numbers.{format_and_numbers}
use Rattle.tk_shape.specs.Lengths.{width}
use Rattle.tk_frames.specs.declared.entry.Placed.{Placed}
use Rattle.tk_frames.specs.Order.{records}
use Rattle.tk_frames.specs.InOrder.{mark_count}
use Rattle.tk_frames.specs.Spelling.{be32, be64}
use Rattle.tk_frames.specs.Slots.{slot_bytes}
use Rattle.tk_table.specs.Table.{SlotTable, window, layout}
use Rattle.tk_table.specs.Stands.{position_of}
use Rattle.tk_table.specs.Shown.{pushes_of}
use Rattle.tk_replica.specs.declared.epoch.Epoch.{Epoch}
use Rattle.tk_replica.specs.Replica.{ReplicaView}

-- entries that were applied, the last mark among them, the writes of the window with their
-- positions and hits, and the slots of the table
pub record Saved : Type 0 where
  pub applied : ℕ
  pub last : ℕ
  pub positions : List ℕ
  pub pushes : List (List ℕ)
  pub slots : SlotTable

-- what a state has
abbrev pub saved_of : ReplicaView → Saved
saved_of s =
    record {
      applied = s.applied;
      last = s.last;
      positions = s.table.positions;
      pushes = s.window.pushes;
      slots = s.table.slots;
    }

-- the position of the mark of its last epoch
abbrev pub last_upto : ReplicaView → ℕ
last_upto s = slice_index (map (λ (e : Epoch). e.upto) s.kept) (s.last - s.floor)

-- what entries leave
abbrev pub left_by : Shape → List Placed → Saved
left_by shape E =
    record {
      applied = length E;
      last = mark_count E;
      positions = map position_of (window shape (records E));
      pushes = pushes_of shape (records E);
      slots = layout shape (records E);
    }

-- ---- the bytes

-- the letters TALK
abbrev pub magic : List ℕ
magic = 84 ∷ 65 ∷ 76 ∷ 75 ∷ []

-- the numbers in front
abbrev pub head_with : Shape → ℕ → ℕ → ℕ → List ℕ
head_with shape applied last count =
    magic ++ 1 ∷ flat_map be32 (format_and_numbers shape) ++ be64 applied ++ be32 last ++ be32 count

abbrev pub head_bytes : Shape → Saved → List ℕ
head_bytes shape s = head_with shape s.applied s.last (length s.positions)

-- each position with the hits beside it
abbrev pub window_bytes : List ℕ → List (List ℕ) → List ℕ
window_bytes [] pushes = []
window_bytes (p ∷ ps) [] = []
window_bytes (p ∷ ps) (hits ∷ pushes) = be64 p ++ flat_map be32 hits ++ window_bytes ps pushes

-- bucket after bucket
abbrev pub table_bytes : SlotTable → List ℕ
table_bytes T = flat_map (flat_map slot_bytes) T

unfoldable pub spelling : Shape → Saved → List ℕ
spelling shape s = head_bytes shape s ++ (window_bytes s.positions s.pushes ++ table_bytes s.slots)

-- the checkpoint of entries
abbrev pub saved : Shape → List Placed → List ℕ
saved shape E = spelling shape (left_by shape E)

-- ---- lengths

-- the bytes in front of the window
abbrev pub head_len : ℕ
head_len = 73

-- those of a write of the window, and of the table
abbrev pub entry_len : Shape → ℕ
entry_len shape = 8 + 4 * shape.hits

abbrev pub table_len : Shape → ℕ
table_len shape = shape.buckets * width shape
