-- Reads on their way by server 1, while the servers reply to them.
use Rattle.std.specs.Prelude.{◌≡◌, ℕ, ◌-◌, ◌<◌, ◌==◌, cond, List, [], ◌∷◌, ◌++◌, length, map, flat_map}
use Rattle.std.specs.Prelude.{drop, slice_index_or}
use Rattle.std.specs.List.{AllByRecursion, range_with_len}
use Rattle.tk_shape.specs.declared.shape.Shape.{Shape}
use Rattle.tk_frames.specs.declared.read_frame.ReadFrame.{ReadFrame}
use Rattle.tk_relay.specs.declared.part.Part.{Part}
use Rattle.tk_relay.specs.declared.relayed_read.RelayedRead.{RelayedRead}
use Rattle.tk_relay.specs.Pads.{PadLists, Padding}
use Rattle.tk_relay.specs.Parts.{blank_part, part_frame, masked_reply_frame}
use Rattle.tk_relay.specs.Bundles.{parts_for, bundle_frame}
use Rattle.tk_relay.specs.Serving.{IsAsking, served_part}

-- a server's part, and its reply
abbrev pub part_of : RelayedRead → ℕ → Part
part_of r server = slice_index_or r.parts.items (server - 1) blank_part

abbrev pub reply_of : RelayedRead → ℕ → Part
reply_of r server = slice_index_or r.replies.items (server - 1) blank_part

-- a read of a shape has a part for each server
pub record HasAllParts (shape : Shape) (r : RelayedRead) : Type 0 where
  pub counted : length r.parts.items ≡ shape.servers
  pub sized : AllByRecursion (IsAsking shape) r.parts.items

-- what a client with these pads sends of a read with these frames, split into its parts
pub record IsSplitRead (shape : Shape) (frames : List ReadFrame) (pads : PadLists) (r : RelayedRead)
    : Type 0 where
  pub bundle : r.bundle ≡ bundle_frame (parts_for shape pads frames)
  pub parts : r.parts.items ≡ parts_for shape pads frames
  pub replies : r.replies.items ≡ []

-- Some servers with these blocks, from one on, replied to a read of a client with these pads, each
-- with its mask, and nothing else of it changed.
pub record AreRepliedTo (shape : Shape) (blocks : List (List ℕ)) (pads : PadLists) (from count : ℕ)
    (old new : RelayedRead) : Type 0 where
  pub bundle : new.bundle ≡ old.bundle
  pub parts : new.parts ≡ old.parts
  pub replies : new.replies.items
      ≡ old.replies.items
      ++ map (λ j. served_part shape blocks pads j (part_of old j)) (range_with_len from count)

-- so to each of some reads, of clients with these pads
pub record AreServed (shape : Shape) (blocks : List (List ℕ)) (pads : List Padding)
    (from count : ℕ) (old new : List RelayedRead) : Type 0 where
  pub counted : length new ≡ length old
  pub each : (k : ℕ) (p : Padding) (d : RelayedRead) → k < length old →
      AreRepliedTo shape blocks (slice_index_or pads k p).pads from count (slice_index_or old k d)
      (slice_index_or new k d)

-- one reply more to a read, and nothing else of it changed
pub record HasReply (reply : Part) (old new : RelayedRead) : Type 0 where
  pub bundle : new.bundle ≡ old.bundle
  pub parts : new.parts ≡ old.parts
  pub replies : new.replies.items ≡ old.replies.items ++ reply ∷ []

-- so to each of some reads
pub record HaveReplies (replies : List Part) (old new : List RelayedRead) : Type 0 where
  pub counted : length new ≡ length old
  pub each : (k : ℕ) (p : Part) (d : RelayedRead) → k < length old →
      HasReply (slice_index_or replies k p) (slice_index_or old k d) (slice_index_or new k d)

-- ---- what servers see

-- what a server sees of a read
abbrev pub read_seen : ℕ → RelayedRead → List ℕ
read_seen server r =
    cond (server == 1) (r.bundle ++ flat_map masked_reply_frame (drop 1 r.replies.items))
    (part_frame (part_of r server) ++ masked_reply_frame (reply_of r server))

-- all of so many servers have parts of it, and have replied
pub record IsReplied (servers : ℕ) (r : RelayedRead) : Type 0 where
  pub parts : length r.parts.items ≡ servers
  pub replies : length r.replies.items ≡ servers

-- what a server sees of a turn with these entries and reads
abbrev pub sight_seen : List ℕ → List RelayedRead → ℕ → List ℕ
sight_seen entries reads server = entries ++ flat_map (read_seen server) reads
