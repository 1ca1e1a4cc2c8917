-- Over how many pads server 1 sees what it looks for in a read.
use Rattle.std.specs.Prelude.{◌≡◌, ℕ, ◌<◌, Bool, List, ◌++◌, flat_map, All}
use Rattle.tk_shape.specs.declared.shape.Shape.{Shape}
use Rattle.tk_counts.specs.Counts.{IsListBelow, count_lists}
use Rattle.tk_client.specs.Asked.{AreWhole}
use Rattle.tk_relay.specs.Halves.{halves_bytes}
use Rattle.tk_relay.specs.Pads.{PadLists, ArePads, pads_in, pads_len}
use Rattle.tk_relay.specs.Sights.{DrawnRead, frames_for, AreBuckets, AreBlocks, RelayedSight, sight}

-- ---- all pads of a shape

-- the bytes that pads are: the request pads of servers 2 and up, and then their reply pads
abbrev pub pads_bytes : PadLists → List ℕ
pads_bytes pads = flat_map halves_bytes pads.requests ++ flat_map halves_bytes pads.replies

-- pads of a shape that are bytes
pub record AreBytePads (shape : Shape) (pads : PadLists) : Type 0 where
  pub are : ArePads shape pads
  pub bytes : All (λ b. b < 256) (pads_bytes pads)

-- as many bytes as pads of a shape take are cut into such pads, of which they are the bytes
abbrev pub PadsAreCut : Type 0
PadsAreCut =
    (shape : Shape) (bytes : List ℕ) → IsListBelow 256 (pads_len shape) bytes →
    AreBytePads shape (pads_in shape bytes) × (pads_bytes (pads_in shape bytes) ≡ bytes)

-- and such pads are cut from their bytes, so from no others
abbrev pub PadsAreSpelled : Type 0
PadsAreSpelled =
    (shape : Shape) (pads : PadLists) → AreBytePads shape pads →
    IsListBelow 256 (pads_len shape) (pads_bytes pads) × (pads_in shape (pads_bytes pads) ≡ pads)

-- over how many pads of a shape that are bytes a test passes: each of them is cut from one list of
-- so many bytes, and each such list is tried once
abbrev pub count_pads : Shape → (PadLists → Bool) → ℕ
count_pads shape test = count_lists 256 (pads_len shape) (λ bytes. test (pads_in shape bytes))

-- ---- what is seen over them

-- blocks of a shape that are bytes
pub record AreByteBlocks (shape : Shape) (blocks : List (List ℕ)) : Type 0 where
  pub are : AreBlocks shape blocks
  pub bytes : All (All (λ b. b < 256)) blocks

-- whatever server 1 looks for in what it sees of a read, it finds it over as many pads whichever two
-- buckets are read
abbrev pub AsManyPads : Type 0
AsManyPads =
    (shape : Shape) (blocks : List (List ℕ)) (r : DrawnRead) (one other : ℕ × ℕ) (test : RelayedSight → Bool) →
    AreByteBlocks shape blocks → AreWhole shape r.drawn → AreBuckets shape one →
    AreBuckets shape other →
    count_pads shape (λ pads. test (sight shape blocks pads (frames_for shape r one)))
    ≡ count_pads shape (λ pads. test (sight shape blocks pads (frames_for shape r other)))
