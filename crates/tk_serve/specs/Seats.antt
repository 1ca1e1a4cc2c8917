-- What a server took of each client, and the entries of the turns that all have written.
use Rattle.std.specs.Prelude.{◌≡◌, ℕ, ◌<◌, ◌≤◌, min, List, [], ◌∷◌, ◌++◌, length, map, replicate, set, slice_index_or}
use Rattle.tk_shape.specs.declared.shape.Shape.{Shape}
use Rattle.tk_shape.specs.Lengths.{turn_count}
use Rattle.tk_schedule.specs.Schedule.{serial_history, phases_over}
use Rattle.tk_frames.specs.declared.write_frame.WriteFrame.{WriteFrame}
use Rattle.tk_frames.specs.declared.read_frame.ReadFrame.{ReadFrame}
use Rattle.tk_frames.specs.declared.entry.Placed.{Placed}
use Rattle.tk_frames.specs.Ranges.{IsWrite, IsRead}
use Rattle.tk_report.specs.Entries.{entries_before}

-- the writes and the reads of one client, those of turn 0 first
pub record Seat : Type 0 where
  pub writes : List WriteFrame
  pub reads : List ReadFrame

abbrev pub empty_seat : Seat
empty_seat = record { writes = []; reads = [] }

-- a seat for each client, before anything was taken
unfoldable pub empty_seats : Shape → List Seat
empty_seats shape = replicate shape.clients empty_seat

abbrev pub seat_of : List Seat → ℕ → Seat
seat_of seats c = slice_index_or seats c empty_seat

abbrev pub seat_with_write : Seat → WriteFrame → Seat
seat_with_write s w = record { writes = s.writes ++ w ∷ []; reads = s.reads }

abbrev pub seat_with_read : Seat → ReadFrame → Seat
seat_with_read s r = record { writes = s.writes; reads = s.reads ++ r ∷ [] }

-- one more write, or read, of a client
abbrev pub with_write : List Seat → ℕ → WriteFrame → List Seat
with_write seats c w = set seats c (seat_with_write (seat_of seats c) w)

abbrev pub with_read : List Seat → ℕ → ReadFrame → List Seat
with_read seats c r = set seats c (seat_with_read (seat_of seats c) r)

-- ---- which seats there may be

-- a write in range, of a client and a turn
pub record IsWriteOf (shape : Shape) (c g : ℕ) (w : WriteFrame) : Type 0 where
  pub in_range : IsWrite shape w
  pub of : w.client ≡ c
  pub at : w.turn ≡ g

-- a read in range, of a client and a turn, over the epoch before its phase's
pub record IsReadDue (shape : Shape) (c g : ℕ) (r : ReadFrame) : Type 0 where
  pub in_range : IsRead shape r
  pub of : r.client ≡ c
  pub at : r.turn ≡ g
  pub over : r.epoch ≡ phases_over shape g

-- what was taken of client c: its writes, and its reads, turn by turn
pub record IsSeatOf (shape : Shape) (c : ℕ) (s : Seat) : Type 0 where
  pub few_writes : length s.writes ≤ turn_count shape
  pub few_reads : length s.reads ≤ turn_count shape
  pub write_each : (i : ℕ) (d : WriteFrame) → i < length s.writes →
      IsWriteOf shape c i (slice_index_or s.writes i d)
  pub read_each : (i : ℕ) (d : ReadFrame) → i < length s.reads →
      IsReadDue shape c i (slice_index_or s.reads i d)

-- a seat for each client
pub record AreSeats (shape : Shape) (seats : List Seat) : Type 0 where
  pub counted : length seats ≡ shape.clients
  pub each : (c : ℕ) (d : Seat) → c < length seats → IsSeatOf shape c (slice_index_or seats c d)

-- ---- the order

abbrev pub blank_write : WriteFrame
blank_write =
    record { client = 0; turn = 0; first = 0; second = 0; hits = []; block = [] }

-- what a client wrote in a turn
abbrev pub taken_write : List Seat → ℕ → ℕ → WriteFrame
taken_write seats g c = slice_index_or (seat_of seats c).writes g blank_write

-- the least of these numbers and of one more
abbrev pub least : ℕ → List ℕ → ℕ
least n [] = n
least n (m ∷ ms) = min m (least n ms)

-- how many turns all clients have written, of all turns
unfoldable pub turns_written : Shape → List Seat → ℕ
turns_written shape seats = least (turn_count shape) (map (λ s. length s.writes) seats)

-- the entries of the first g turns, in the order of the serial history
abbrev pub placed_to : Shape → List Seat → ℕ → List Placed
placed_to shape seats g = entries_before (taken_write seats) (serial_history shape) g

-- those of the turns that all have written
abbrev pub placed : Shape → List Seat → List Placed
placed shape seats = placed_to shape seats (turns_written shape seats)

-- the last epoch that they make
abbrev pub newest : Shape → List Seat → ℕ
newest shape seats = phases_over shape (turns_written shape seats)
