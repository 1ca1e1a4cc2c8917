-- Parts of a relayed read, and the frames that have one part.
use Rattle.std.specs.Prelude.{ℕ, ◌+◌, ◌*◌, ◌<◌, ◌≤◌, List, [], slice_index_or, drop}
use Rattle.tk_shape.specs.declared.shape.Shape.{Shape}
use Rattle.tk_shape.specs.Lengths.{turn_count}
use Rattle.tk_frames.specs.Fields.{number_at}
use Rattle.tk_frames.specs.Faults.{Check, asked_checks}
use Rattle.tk_frames.specs.Spelling.{asked_frame}
use Rattle.tk_relay.specs.declared.part.Part.{Part}
use Rattle.tk_relay.specs.Halves.{Halves, HasHalves, halves_in, halves_bytes}

abbrev pub part_with : ℕ → ℕ → ℕ → Halves → Part
part_with c g e x =
    record { client = c; turn = g; epoch = e; first = x.first; second = x.second }

abbrev pub halves_of : Part → Halves
halves_of p = record { first = p.first; second = p.second }

abbrev pub blank_part : Part
blank_part = record { client = 0; turn = 0; epoch = 0; first = []; second = [] }

-- the part of server 1
abbrev pub first_part : List Part → Part
first_part parts = slice_index_or parts 0 blank_part

-- its client, turn and epoch are those of a run, and its halves have so many bytes
pub record IsPart (shape : Shape) (size : ℕ) (p : Part) : Type 0 where
  pub client : p.client < shape.clients
  pub turn : p.turn < turn_count shape
  pub epoch : p.epoch ≤ shape.phases
  pub halves : HasHalves size (halves_of p)

-- ---- frames of one part

abbrev pub frame_as : ℕ → Part → List ℕ
frame_as kind p = asked_frame kind p.client p.turn p.epoch (halves_bytes (halves_of p))

-- what server 1 passes on to a server
abbrev pub part_frame : Part → List ℕ
part_frame p = frame_as 9 p

-- what the server replies to that
abbrev pub masked_reply_frame : Part → List ℕ
masked_reply_frame p = frame_as 10 p

-- the part with halves of so many bytes that these bytes spell
abbrev pub part_in : ℕ → List ℕ → Part
part_in size bytes =
    part_with (number_at 2 bytes) (number_at 6 bytes) (number_at 10 bytes)
    (halves_in size (drop 14 bytes))

-- what is checked of such a frame, in this order
abbrev pub part_checks : Shape → ℕ → ℕ → List ℕ → List Check
part_checks shape size kind bytes = asked_checks shape (14 + 2 * size) kind bytes
