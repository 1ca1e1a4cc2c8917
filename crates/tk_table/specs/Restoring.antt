-- Slots and positions that a table can be made of.
use Rattle.std.specs.Prelude.{◌≡◌, ◌≢◌, ℕ, ◌+◌, ◌*◌, ◌/◌, ◌<◌, ◌≤◌, ◌⊎◌, ◌==◌, cond, List, [], ◌∷◌, length}
use Rattle.std.specs.Prelude.{slice_index_or}
use Rattle.tk_shape.specs.declared.shape.Shape.{Shape}
use Rattle.tk_shape.specs.Lengths.{slot_len}
use Rattle.tk_frames.specs.Lists.{IsIn}
use Rattle.tk_frames.specs.Slots.{slots_from}
use Rattle.tk_bucket.specs.Packing.{table_in}
use Rattle.tk_bucket.specs.Table.{empty_slot as empty_slot_of}
use Rattle.tk_table.specs.Table.{Slot, SlotTable, empty_slot}
use Rattle.tk_table.specs.Inside.{IsEntryOf}

-- numbers that ascend strictly, none of them below p
abbrev pub AreAscending : ℕ → List ℕ → Type 0
AreAscending p [] = Unit {0}
AreAscending p (q ∷ qs) = (p ≤ q) × AreAscending (q + 1) qs

-- the slots that the bytes of a table spell, in one row, bucket after bucket; and the table of them
abbrev pub slots_spelled : Shape → List ℕ → List Slot
slots_spelled shape bytes = slots_from (slot_len shape) (shape.buckets * shape.depth) bytes

abbrev pub table_spelled : Shape → List ℕ → SlotTable
table_spelled shape bytes = table_in shape.buckets shape.depth shape.block bytes

abbrev pub slot_number : List Slot → ℕ → Slot
slot_number slots n = slice_index_or slots n (empty_slot_of 0)

-- slot n has an entry of its bucket, with one of these positions, which no earlier slot has
pub record IsNewEntry (shape : Shape) (positions : List ℕ) (slots : List Slot) (n : ℕ) : Type 0 where
  pub entry : IsEntryOf shape (n / shape.depth) (slot_number slots n)
  pub named : IsIn positions (slot_number slots n).position
  pub alone : (m : ℕ) → m < n → (slot_number slots m).position ≢ (slot_number slots n).position

-- each slot of the row is all zeros, or has such an entry
abbrev pub AreSound : Shape → List ℕ → List Slot → Type 0
AreSound shape positions slots =
    (n : ℕ) → n < length slots
    → (slot_number slots n ≡ empty_slot shape) ⊎ IsNewEntry shape positions slots n

-- the pairs beside the positions, after this pair is kept beside one of them
abbrev pub learned : List ℕ → List (ℕ × ℕ) → ℕ → ℕ × ℕ → List (ℕ × ℕ)
learned [] pairs position pair = pairs
learned (p ∷ ps) [] position pair = []
learned (p ∷ ps) (q ∷ qs) position pair =
    cond (position == p) (pair ∷ qs) (q ∷ learned ps qs position pair)
