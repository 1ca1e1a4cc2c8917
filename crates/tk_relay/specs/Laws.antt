-- That server 1 sees the same of any two reads, and that clients read the same by way of it.
use Rattle.std.specs.Prelude.{◌≡◌, ℕ, List, map}
use Rattle.std.specs.List.{range_with_len, AllByRecursion}
use Rattle.tk_shape.specs.declared.shape.Shape.{Shape}
use Rattle.tk_frames.specs.declared.read_frame.ReadFrame.{ReadFrame}
use Rattle.tk_frames.specs.declared.reply_frame.ReplyFrame.{ReplyFrame}
use Rattle.tk_frames.specs.Order.{Record}
use Rattle.tk_table.specs.Table.{layout, blocks_of}
use Rattle.tk_table.specs.Ordered.{AreOrdered}
use Rattle.tk_table.specs.Laws.{IsStorable}
use Rattle.tk_table.specs.Replies.{reply_to}
use Rattle.tk_client.specs.Asked.{AreWhole}
use Rattle.tk_client.specs.Replies.{first_joined, second_joined}
use Rattle.tk_relay.specs.declared.part.Part.{Part}
use Rattle.tk_relay.specs.Pads.{PadLists, ArePads}
use Rattle.tk_relay.specs.Bundles.{AreOneRead, part_for}
use Rattle.tk_relay.specs.Serving.{served_part, gathered_part}
use Rattle.tk_relay.specs.Replies.{reply_over, replies_from}
use Rattle.tk_relay.specs.Sights.{DrawnRead, frames_for, AreBuckets, AreBlocks, sight, moved_pads}

-- it sees of a read with these pads what it sees of a read of any other buckets with the moved ones
abbrev pub SameSight : Type 0
SameSight =
    (shape : Shape) (blocks : List (List ℕ)) (pads : PadLists) (r : DrawnRead) (old new : ℕ × ℕ) →
    AreBlocks shape blocks → ArePads shape pads → AreWhole shape r.drawn →
    AreBuckets shape old → AreBuckets shape new →
    sight shape blocks pads (frames_for shape r old)
    ≡ sight shape blocks (moved_pads shape blocks old new pads) (frames_for shape r new)

-- moved back they are the pads again
abbrev pub MovedBack : Type 0
MovedBack =
    (shape : Shape) (blocks : List (List ℕ)) (pads : PadLists) (old new : ℕ × ℕ) →
    AreBlocks shape blocks → ArePads shape pads → AreBuckets shape old → AreBuckets shape new →
    moved_pads shape blocks new old (moved_pads shape blocks old new pads) ≡ pads

-- and moved they are pads of the shape
abbrev pub MovedStay : Type 0
MovedStay =
    (shape : Shape) (blocks : List (List ℕ)) (pads : PadLists) (old new : ℕ × ℕ) →
    AreBlocks shape blocks → ArePads shape pads → AreBuckets shape old → AreBuckets shape new →
    ArePads shape (moved_pads shape blocks old new pads)

-- the replies of all servers to the parts of a read, where all have these blocks
abbrev pub all_served : Shape → List (List ℕ) → PadLists → List ReadFrame → List Part
all_served shape blocks pads frames =
    map (λ j. served_part shape blocks pads j (part_for pads frames j))
    (range_with_len 1 shape.servers)

-- two lists of replies join to the same blocks
pub record JoinAlike (shape : Shape) (a b : List ReplyFrame) : Type 0 where
  pub first : first_joined shape a ≡ first_joined shape b
  pub second : second_joined shape a ≡ second_joined shape b

-- the replies made of the one reply join to what the servers' own replies to the frames join to
abbrev pub RepliesJoin : Type 0
RepliesJoin =
    (shape : Shape) (blocks : List (List ℕ)) (pads : PadLists) (frames : List ReadFrame) →
    AreBlocks shape blocks → ArePads shape pads → AreOneRead shape frames →
    JoinAlike shape (replies_from shape pads (gathered_part (all_served shape blocks pads frames)))
    (map (reply_over shape blocks) frames)

-- so they do in a run, where the blocks are those that writes leave
abbrev pub HonestRepliesJoin : Type 0
HonestRepliesJoin =
    (shape : Shape) (R : List Record) (pads : PadLists) (frames : List ReadFrame) →
    AreOrdered shape R → AllByRecursion (IsStorable shape) R → ArePads shape pads →
    AreOneRead shape frames → let blocks = blocks_of (layout shape R) in
    JoinAlike shape (replies_from shape pads (gathered_part (all_served shape blocks pads frames)))
    (map (reply_to shape R) frames)
