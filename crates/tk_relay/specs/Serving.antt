-- What a server replies to its part of a read, and what server 1 makes of all replies.
use Rattle.std.specs.Prelude.{◌≡◌, ℕ, ◌≤◌, List, length, map, All}
use Rattle.std.specs.List.{AllByRecursion, zip}
use Rattle.tk_shape.specs.declared.shape.Shape.{Shape}
use Rattle.tk_shape.specs.Lengths.{vector_len, width}
use Rattle.tk_frames.specs.declared.entry.Placed.{Placed}
use Rattle.tk_frames.specs.Order.{before}
use Rattle.tk_kernel.specs.Chosen.{chosen_sum}
use Rattle.tk_kernel.specs.Pieces.{AllSized}
use Rattle.tk_bucket.specs.Bytes.{BlockList}
use Rattle.tk_table.specs.Table.{layout, blocks_of}
use Rattle.tk_cluster.specs.declared.set.EpochSet.{EpochSet}
use Rattle.tk_cluster.specs.Sets.{StandsAtMark}
use Rattle.tk_relay.specs.declared.part.Part.{Part}
use Rattle.tk_relay.specs.Halves.{Halves, HasHalves, joined}
use Rattle.tk_relay.specs.Pads.{PadLists, Padding, masked}
use Rattle.tk_relay.specs.Parts.{part_with, halves_of, first_part}

-- the sums of blocks of a width that two vectors choose
abbrev pub sums_over : ℕ → List (List ℕ) → Halves → Halves
sums_over wide blocks vectors =
    record {
      first = chosen_sum wide blocks vectors.first;
      second = chosen_sum wide blocks vectors.second;
    }

abbrev pub sums_for : Shape → List (List ℕ) → Halves → Halves
sums_for shape blocks vectors = sums_over (width shape) blocks vectors

-- the reply of a server to its part: the mask is taken off the vectors, and another put on the sums
abbrev pub served_part : Shape → List (List ℕ) → PadLists → ℕ → Part → Part
served_part shape blocks pads server p =
    part_with p.client p.turn p.epoch
    (masked pads.replies server
    (sums_for shape blocks (masked pads.requests server (halves_of p))))

-- ---- parts of several reads, each with the pads of its client

-- a part of vectors of a shape
abbrev pub IsAsking : Shape → Part → Type 0
IsAsking shape p = HasHalves (vector_len shape) (halves_of p)

-- parts that a server of a shape is asked with
pub record AreAskedParts (shape : Shape) (server : ℕ) (pads : List Padding) (parts : List Part) : Type 0 where
  pub low : 1 ≤ server
  pub high : server ≤ shape.servers
  pub counted : length pads ≡ length parts
  pub one_shape : All (λ p. p.shape ≡ shape) pads
  pub sized : All (IsAsking shape) parts

-- blocks that a server of a shape has
pub record AreHad (shape : Shape) (blocks : BlockList) : Type 0 where
  pub counted : length blocks.blocks ≡ shape.buckets
  pub wide : blocks.width ≡ width shape

-- the vectors that a server is asked with by a part, without their mask
abbrev pub vectors_asked : ℕ → Padding × Part → Halves
vectors_asked server x = masked x.0.pads.requests server (halves_of x.1)

abbrev pub first_asked : ℕ → Padding × Part → List ℕ
first_asked server x = (vectors_asked server x).first

abbrev pub second_asked : ℕ → Padding × Part → List ℕ
second_asked server x = (vectors_asked server x).second

-- the reply of a server that has these blocks to a part
abbrev pub reply_to_asked : Shape → List (List ℕ) → ℕ → Padding × Part → Part
reply_to_asked shape blocks server x = served_part shape blocks x.0.pads server x.1

-- its replies to all of them
abbrev pub served_parts : Shape → List (List ℕ) → ℕ → List Padding → List Part → List Part
served_parts shape blocks server pads parts =
    map (reply_to_asked shape blocks server) (zip pads parts)

-- the sums of these blocks that the vectors choose, for the first bucket of each part and for the second
pub record AreChosenSums (shape : Shape) (blocks : List (List ℕ)) (server : ℕ)
    (asked : List (Padding × Part)) (first second : List (List ℕ)) : Type 0 where
  pub sized : AllSized (width shape) blocks
  pub first_are : first ≡ map (chosen_sum (width shape) blocks) (map (first_asked server) asked)
  pub second_are : second ≡ map (chosen_sum (width shape) blocks) (map (second_asked server) asked)

-- of whatever shape they are that a server is asked with these parts, and has these blocks
abbrev pub ForShapeAsked : ℕ → List Padding → List Part → (Shape → Type 0) → Type 0
ForShapeAsked server pads parts says =
    (shape : Shape) → AreAskedParts shape server pads parts → says shape

abbrev pub ForShapeHad : BlockList → ℕ → List Padding → List Part → (Shape → Type 0) → Type 0
ForShapeHad blocks server pads parts says =
    (shape : Shape) → AreHad shape blocks → AreAskedParts shape server pads parts → says shape

-- these are the sums of some blocks, and of whatever blocks they are
abbrev pub AreSumsAsked :
    ℕ → List Padding → List Part → List (List ℕ) → List (List ℕ) → Type 0
AreSumsAsked server pads parts first second =
    (shape : Shape) × (blocks : List (List ℕ)) × AreAskedParts shape server pads parts
    × AreChosenSums shape blocks server (zip pads parts) first second

abbrev pub ForBlocksAsked :
    ℕ → List Padding → List Part → List (List ℕ) → List (List ℕ)
    → (Shape → List (List ℕ) → Type 0) → Type 0
ForBlocksAsked server pads parts first second says =
    (shape : Shape) (blocks : List (List ℕ)) → AreAskedParts shape server pads parts →
    AreChosenSums shape blocks server (zip pads parts) first second → says shape blocks

-- replies of a shape
abbrev pub AreOfShape : Shape → List Part → Type 0
AreOfShape shape replies = AllByRecursion (λ p. HasHalves (width shape) (halves_of p)) replies

-- ---- the blocks of a set

-- of whatever shape and entries it stands for, with the blocks of its epoch
abbrev pub ForBlocksOf : EpochSet → (Shape → List (List ℕ) → Type 0) → Type 0
ForBlocksOf set says =
    (shape : Shape) (E : List Placed) → StandsAtMark shape E set.number set →
    says shape (blocks_of (layout shape (before E set.number)))

-- ---- all replies

-- each has as many bytes for either bucket as the first
pub record IsAlike (first p : Part) : Type 0 where
  pub first_half : length p.first ≡ length first.first
  pub second_half : length p.second ≡ length first.second

abbrev pub AreOfOneRead : List Part → Type 0
AreOfOneRead parts = AllByRecursion (IsAlike (first_part parts)) parts

-- the read of the first, with the halves of all joined
unfoldable pub gathered_part : List Part → Part
gathered_part parts =
    let first = first_part parts in
    let all = map halves_of parts in
    part_with first.client first.turn first.epoch
    (record {
      first = (joined (length first.first) all).first;
      second = (joined (length first.second) all).second;
    })
