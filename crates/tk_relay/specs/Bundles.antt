-- What a client sends to server 1: the vectors of its read for all servers, masked for all but the first.
use Rattle.std.specs.Prelude.{◌≡◌, ℕ, ◌+◌, ◌-◌, ◌*◌, List, length, map, flat_map, drop, slice_index_or}
use Rattle.std.specs.List.{AllByRecursion, range_with_len}
use Rattle.tk_shape.specs.declared.shape.Shape.{Shape}
use Rattle.tk_shape.specs.Lengths.{vector_len}
use Rattle.tk_frames.specs.declared.read_frame.ReadFrame.{ReadFrame}
use Rattle.tk_frames.specs.Fields.{number_at}
use Rattle.tk_frames.specs.Faults.{Check, asked_checks}
use Rattle.tk_frames.specs.Spelling.{asked_frame}
use Rattle.tk_report.specs.Exchange.{blank_read}
use Rattle.tk_relay.specs.declared.part.Part.{Part}
use Rattle.tk_relay.specs.Halves.{Halves, HasHalves, halves_bytes}
use Rattle.tk_relay.specs.Pads.{PadLists, masked, halves_list}
use Rattle.tk_relay.specs.Parts.{part_with, halves_of, first_part, IsPart}

-- ---- a read

abbrev pub vectors_of : ReadFrame → Halves
vectors_of r = record { first = r.first; second = r.second }

-- the frame of a server among those of all
abbrev pub frame_of : List ReadFrame → ℕ → ReadFrame
frame_of frames server = slice_index_or frames (server - 1) blank_read

-- a frame with vectors of a shape that is of the same client, turn and epoch as another
pub record IsAlong (shape : Shape) (first r : ReadFrame) : Type 0 where
  pub client : r.client ≡ first.client
  pub turn : r.turn ≡ first.turn
  pub epoch : r.epoch ≡ first.epoch
  pub vectors : HasHalves (vector_len shape) (vectors_of r)

-- one frame for each server, all of one client, turn and epoch
pub record AreOneRead (shape : Shape) (frames : List ReadFrame) : Type 0 where
  pub counted : length frames ≡ shape.servers
  pub along : AllByRecursion (IsAlong shape (frame_of frames 1)) frames

-- a server's part of it, masked
abbrev pub part_for : PadLists → List ReadFrame → ℕ → Part
part_for pads frames server =
    let r = frame_of frames server in
    part_with r.client r.turn r.epoch (masked pads.requests server (vectors_of r))

-- all parts, server by server
abbrev pub parts_for : Shape → PadLists → List ReadFrame → List Part
parts_for shape pads frames = map (part_for pads frames) (range_with_len 1 shape.servers)

-- ---- the bundle of parts

abbrev pub bundle_len : Shape → ℕ
bundle_len shape = 14 + 2 * shape.servers * vector_len shape

abbrev pub part_bytes : Part → List ℕ
part_bytes p = halves_bytes (halves_of p)

-- the one spelling of parts
abbrev pub bundle_frame : List Part → List ℕ
bundle_frame parts =
    let first = first_part parts in
    asked_frame 8 first.client first.turn first.epoch (flat_map part_bytes parts)

-- a part that is of the same client, turn and epoch as another
pub record IsOfOne (first p : Part) : Type 0 where
  pub client : p.client ≡ first.client
  pub turn : p.turn ≡ first.turn
  pub epoch : p.epoch ≡ first.epoch

-- parts of one read of a shape, one for each server
pub record AreParts (shape : Shape) (parts : List Part) : Type 0 where
  pub counted : length parts ≡ shape.servers
  pub in_range : AllByRecursion (IsPart shape (vector_len shape)) parts
  pub of_one : AllByRecursion (IsOfOne (first_part parts)) parts

-- the parts that these bytes spell
abbrev pub parts_in : Shape → List ℕ → List Part
parts_in shape bytes =
    map (part_with (number_at 2 bytes) (number_at 6 bytes) (number_at 10 bytes))
    (halves_list (vector_len shape) shape.servers (drop 14 bytes))

-- what is checked of a bundle, in this order
abbrev pub bundle_checks : Shape → List ℕ → List Check
bundle_checks shape bytes = asked_checks shape (bundle_len shape) 8 bytes
