-- What server 1 sees of a read, and the change of pads under which it sees the same of a read of other buckets.
use Rattle.std.specs.Prelude.{◌≡◌, ℕ, ◌-◌, ◌<◌, Bool, List, [], length, map, slice_index_or, slice_set}
use Rattle.std.specs.List.{range_with_len}
use Rattle.tk_shape.specs.declared.shape.Shape.{Shape}
use Rattle.tk_shape.specs.Lengths.{vector_len, width}
use Rattle.tk_kernel.specs.Pieces.{AllSized}
use Rattle.tk_bits.specs.Shares.{unit_vector, shares}
use Rattle.tk_words.specs.Words.{BothBuckets}
use Rattle.tk_frames.specs.declared.read_frame.ReadFrame.{ReadFrame}
use Rattle.tk_client.specs.Asked.{frame_with}
use Rattle.tk_relay.specs.Halves.{Halves, mixed}
use Rattle.tk_relay.specs.Pads.{PadLists, pad_of}
use Rattle.tk_relay.specs.Parts.{masked_reply_frame}
use Rattle.tk_relay.specs.Bundles.{part_for, parts_for, bundle_frame}
use Rattle.tk_relay.specs.Serving.{served_part}

-- the bundle, and the masked replies of servers 2 and up in their order
pub record RelayedSight : Type 0 where
  pub bundle : List ℕ
  pub replies : List (List ℕ)

-- of a read with these frames, where all servers have these blocks
unfoldable pub sight : Shape → List (List ℕ) → PadLists → List ReadFrame → RelayedSight
sight shape blocks pads frames =
    record {
      bundle = bundle_frame (parts_for shape pads frames);
      replies =
          map (λ j. masked_reply_frame
          (served_part shape blocks pads j (part_for pads frames j)))
          (range_with_len 2 (shape.servers - 1));
    }

-- ---- a read of two buckets

-- whose read it is, and what is drawn for it
pub record DrawnRead : Type 0 where
  pub client : ℕ
  pub turn : ℕ
  pub epoch : ℕ
  pub shows : Bool
  pub seeds : BothBuckets
  pub drawn : BothBuckets

-- the frames for all servers in their order
abbrev pub frames_for : Shape → DrawnRead → ℕ × ℕ → List ReadFrame
frames_for shape r pair =
    let size = vector_len shape in
    map (frame_with shape r.shows r.turn r.client r.epoch
    (shares size pair.0 r.seeds.first r.drawn.first)
    (shares size pair.1 r.seeds.second r.drawn.second))
    (range_with_len 1 shape.servers)

-- two buckets of a shape
pub record AreBuckets (shape : Shape) (pair : ℕ × ℕ) : Type 0 where
  pub first : pair.0 < shape.buckets
  pub second : pair.1 < shape.buckets

-- blocks of a shape, one for each bucket
pub record AreBlocks (shape : Shape) (blocks : List (List ℕ)) : Type 0 where
  pub counted : length blocks ≡ shape.buckets
  pub sized : AllSized (width shape) blocks

-- ---- the change of the pads

-- a pad from which the old halves are taken off, and to which the new ones are put
abbrev pub moved : Halves → Halves → Halves → Halves
moved old new pad = mixed (mixed pad old) new

-- the last server's pad so moved, and all others as they are
abbrev pub moved_last : Shape → Halves → Halves → List Halves → List Halves
moved_last shape old new pads =
    slice_set pads (shape.servers - 2) (moved old new (pad_of pads shape.servers))

abbrev pub units_of : Shape → ℕ × ℕ → Halves
units_of shape pair =
    record {
      first = unit_vector (vector_len shape) pair.0;
      second = unit_vector (vector_len shape) pair.1;
    }

abbrev pub blocks_at : List (List ℕ) → ℕ × ℕ → Halves
blocks_at blocks pair =
    record {
      first = slice_index_or blocks pair.0 [];
      second = slice_index_or blocks pair.1 [];
    }

-- the pads with which a read of the new buckets looks like one of the old ones
unfoldable pub moved_pads : Shape → List (List ℕ) → ℕ × ℕ → ℕ × ℕ → PadLists → PadLists
moved_pads shape blocks old new pads =
    record {
      requests = moved_last shape (units_of shape old) (units_of shape new) pads.requests;
      replies = moved_last shape (blocks_at blocks old) (blocks_at blocks new) pads.replies;
    }
