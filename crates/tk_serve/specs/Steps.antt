-- What a server makes of packets, one after the other.
use Rattle.std.specs.Prelude.{◌≡◌, ℕ, ◌+◌, ◌-◌, ◌≤◌, ◌==◌, cond, List, [], ◌∷◌, ◌++◌, length, drop, map, flat_map}
use Rattle.std.specs.Prelude.{Option, Some, None, slice_index}
use Rattle.std.specs.List.{AllByRecursion, range_with_len}
use Rattle.tk_shape.specs.declared.shape.Shape.{Shape}
use Rattle.tk_shape.specs.Lengths.{turn_count}
use Rattle.tk_frames.specs.declared.read_frame.ReadFrame.{ReadFrame}
use Rattle.tk_frames.specs.Fields.{write_in, read_in}
use Rattle.tk_packets.specs.Packets.{PacketView, packet}
use Rattle.tk_packets.specs.Frames.{refused_frame}
use Rattle.tk_serve.specs.declared.refusal.Refusal.{Refusal}
use Rattle.tk_serve.specs.Seats.{Seat, with_write, with_read, turns_written, placed, newest}
use Rattle.tk_serve.specs.Refusals.{refusal_of, code_of}
use Rattle.tk_serve.specs.Told.{told, told_of, closing_told}

-- client c is peer c + 1
abbrev pub packets_to : ℕ → List (List ℕ) → List PacketView
packets_to c frames = map (packet (c + 1)) frames

-- what goes out for a read that is taken, and for the end of its phase alone
abbrev pub read_packets : Shape → List Seat → ReadFrame → List PacketView
read_packets shape seats r =
    packets_to r.client (told_of shape (placed shape seats) (newest shape seats) r)

abbrev pub closing_packets : Shape → List Seat → ReadFrame → List PacketView
closing_packets shape seats r =
    packets_to r.client (closing_told shape (placed shape seats) (newest shape seats) r.turn)

-- what a client is told when more was taken
unfoldable pub gain : Shape → List Seat → List Seat → ℕ → List (List ℕ)
gain shape old new c = drop (length (told shape old c)) (told shape new c)

abbrev pub packets_gained : Shape → List Seat → List Seat → ℕ → List PacketView
packets_gained shape old new c = packets_to c (gain shape old new c)

-- the clients are told by number
unfoldable pub all_gained : Shape → List Seat → List Seat → List PacketView
all_gained shape old new =
    flat_map (packets_gained shape old new) (range_with_len 0 shape.clients)

-- the seats with a frame that isn't refused
unfoldable pub with_frame : Shape → List Seat → ℕ → List ℕ → List Seat
with_frame shape seats c bytes =
    cond (slice_index bytes 0 == 1) (with_write seats c (write_in shape (drop 2 bytes)))
    (with_read seats c (read_in shape bytes))

-- seats, and packets that go out
pub record SeatsAndPackets : Type 0 where
  pub seats : List Seat
  pub packets : List PacketView

-- a refused frame is told to its client, and changes nothing
abbrev pub step_by : Shape → List Seat → ℕ → List ℕ → Option Refusal → SeatsAndPackets
step_by shape seats c bytes (Some refusal) =
    record {
      seats = seats;
      packets = packet (c + 1) (refused_frame (code_of refusal)) ∷ [];
    }
step_by shape seats c bytes None =
    let new = with_frame shape seats c bytes in
    record { seats = new; packets = all_gained shape seats new }

-- a frame of a client is taken
unfoldable pub step : Shape → List Seat → ℕ → List ℕ → SeatsAndPackets
step shape seats c bytes = step_by shape seats c bytes (refusal_of shape seats c bytes)

abbrev pub step_on : Shape → List Seat → PacketView → SeatsAndPackets
step_on shape seats p = step shape seats (p.peer - 1) p.bytes

-- ---- packets

-- a packet of a client
pub record IsOfClient (shape : Shape) (p : PacketView) : Type 0 where
  pub low : 1 ≤ p.peer
  pub high : p.peer ≤ shape.clients

-- the seats after packets of clients
abbrev pub seats_after : Shape → List Seat → List PacketView → List Seat
seats_after shape seats [] = seats
seats_after shape seats (p ∷ ps) = seats_after shape (step_on shape seats p).seats ps

-- the packets that go out for them
abbrev pub answers : Shape → List Seat → List PacketView → List PacketView
answers shape seats [] = []
answers shape seats (p ∷ ps) =
    (step_on shape seats p).packets ++ answers shape (step_on shape seats p).seats ps

-- each client has read every turn
abbrev pub AllRead : Shape → List Seat → Type 0
AllRead shape seats = AllByRecursion (λ s. length s.reads ≡ turn_count shape) seats

-- all have written and read every turn
pub record IsOver (shape : Shape) (seats : List Seat) : Type 0 where
  pub written : turns_written shape seats ≡ turn_count shape
  pub all_read : AllRead shape seats
