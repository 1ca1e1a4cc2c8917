-- Slots: each one's one spelling, those that a bucket's bytes spell, and what the slots of two
-- buckets give for a number.
use Rattle.std.specs.Prelude.{ℕ, ◌==◌, nat_le, not, ◌&&◌, cond, List, [], ◌∷◌, ◌++◌, map, drop}
use Rattle.std.specs.Prelude.{Option, Some, None, option_map, filter_map}
use Rattle.tk_kernel.specs.Pieces.{pieces}
use Rattle.tk_shape.specs.declared.shape.Shape.{Shape}
use Rattle.tk_shape.specs.Lengths.{slot_len}
use Rattle.tk_frames.specs.Fields.{number_at, long_at}
use Rattle.tk_frames.specs.Order.{Record}
use Rattle.tk_frames.specs.Spelling.{be32, be64}

-- a slot: a record's position, buckets and block, or all zeros
pub record Slot : Type 0 where
  pub position : ℕ
  pub first : ℕ
  pub second : ℕ
  pub block : List ℕ

abbrev pub slot_bytes : Slot → List ℕ
slot_bytes s = be64 s.position ++ be32 s.first ++ be32 s.second ++ s.block

-- the slot that these bytes spell
abbrev pub slot_from : List ℕ → Slot
slot_from bytes =
    record {
      position = long_at 0 bytes;
      first = number_at 8 bytes;
      second = number_at 12 bytes;
      block = drop 16 bytes;
    }

-- the first count slots of so many bytes each
abbrev pub slots_from : ℕ → ℕ → List ℕ → List Slot
slots_from size count bytes = map slot_from (pieces size count bytes)

abbrev pub slots_in : Shape → List ℕ → List Slot
slots_in shape block = slots_from (slot_len shape) shape.depth block

-- a position and a text
abbrev pub Accepted : Type 0
Accepted = ℕ × List ℕ

-- a slot is accepted for a pair if it isn't empty, its buckets are the pair, in order, and its
-- block opens
abbrev pub accepted : ℕ × ℕ → (List ℕ → Option (List ℕ)) → Slot → Option Accepted
accepted pair opens slot =
    cond (not (slot.position == 0) && slot.first == pair.0 && slot.second == pair.1)
    (option_map (λ text. (slot.position, text)) (opens slot.block)) None

-- the earlier of two, and of two at one position the first
abbrev pub earlier_of : Accepted → Option Accepted → Accepted
earlier_of x None = x
earlier_of x (Some y) = cond (nat_le x.0 y.0) x y

-- the one with the least position
abbrev pub earliest : List Accepted → Option Accepted
earliest [] = None
earliest (x ∷ xs) = Some (earlier_of x (earliest xs))

-- the text of the accepted slot with the least position
abbrev pub text_among : ℕ × ℕ → (List ℕ → Option (List ℕ)) → List Slot → Option (List ℕ)
text_among pair opens slots =
    option_map (λ (x : Accepted). x.1) (earliest (filter_map (accepted pair opens) slots))

-- that text, in the slots of the first block and then of the second
abbrev pub text_from :
    Shape → ℕ × ℕ → (List ℕ → Option (List ℕ)) → List ℕ → List ℕ → Option (List ℕ)
text_from shape pair opens first second =
    text_among pair opens (slots_in shape first ++ slots_in shape second)

-- the text that a record gives for a pair: its buckets are the pair, in order, and its block opens
abbrev pub text_in : ℕ × ℕ → (List ℕ → Option (List ℕ)) → Record → Option (List ℕ)
text_in pair opens r =
    cond (r.write.first == pair.0 && r.write.second == pair.1) (opens r.write.block) None
