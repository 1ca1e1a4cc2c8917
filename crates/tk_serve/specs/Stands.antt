-- The seats that a server stands for.
use Rattle.std.specs.Prelude.{◌≡◌, ℕ, ◌+◌, ◌<◌, ◌≤◌, List, length, map, slice_index_or, All}
use Rattle.tk_shape.specs.declared.shape.Shape.{Shape}
use Rattle.tk_schedule.specs.Schedule.{phases_over}
use Rattle.tk_frames.specs.declared.write_frame.WriteFrame.{WriteFrame}
use Rattle.tk_frames.specs.declared.read_frame.ReadFrame.{ReadFrame}
use Rattle.tk_replica.specs.Replica.{StandsFor}
use Rattle.tk_serve.specs.declared.server.Server.{Server}
use Rattle.tk_serve.specs.declared.due.Due.{Due}
use Rattle.tk_serve.specs.Seats.{Seat, AreSeats, IsWriteOf, IsReadDue, turns_written, placed_to, newest}
use Rattle.tk_serve.specs.Desks.{DeskView, empty_desk, desk_by}

-- A server whose replica has applied the first g turns, and which has answered the reads over epochs up to epoch n.
-- It keeps the epoch that each client reads next, and of a seat only what waits.
pub record StandsAt (shape : Shape) (seats : List Seat) (g n : ℕ) (s : Server) : Type 0 where
  pub same : s.shape ≡ shape
  pub are : AreSeats shape seats
  pub within : g ≤ turns_written shape seats
  pub turn_is : s.turn ≡ g
  pub state_is : StandsFor shape (placed_to shape seats g) s.state
  pub desks_are : s.desks.items ≡ map (desk_by shape g n) seats
  pub floor_low : All (λ d. s.state.floor ≤ phases_over shape d.asked) s.desks.items

-- it has applied all turns that all have written
abbrev pub HasApplied : Shape → List Seat → Server → Type 0
HasApplied shape seats s = StandsAt shape seats (turns_written shape seats) (newest shape seats) s

-- this holds of all seats that a server stands for
abbrev pub ForSeats : Server → (Shape → List Seat → Type 0) → Type 0
ForSeats s Holds = (shape : Shape) (seats : List Seat) → HasApplied shape seats s → Holds shape seats

-- of all those of its own shape
abbrev pub ForOwnSeats : Server → (List Seat → Type 0) → Type 0
ForOwnSeats s Holds = (seats : List Seat) → HasApplied s.shape seats s → Holds seats

-- of all those with a turn that all have written, and that it hasn't applied
abbrev pub ForTurn : Server → (Shape → List Seat → ℕ → ℕ → Type 0) → Type 0
ForTurn s Holds =
    (shape : Shape) (seats : List Seat) (g n : ℕ) → StandsAt shape seats g n s →
    g < turns_written shape seats → Holds shape seats g n

-- and of all those with a new epoch, which it hasn't told
abbrev pub ForEpoch : Server → (Shape → List Seat → ℕ → ℕ → Type 0) → Type 0
ForEpoch s Holds =
    (shape : Shape) (seats : List Seat) (g n : ℕ) → StandsAt shape seats g n s →
    phases_over shape g ≡ n + 1 → Holds shape seats g n

-- a server that stands for some seats
pub record StandsForSome (s : Server) : Type 0 where
  pub shape_of : Shape
  pub seats_of : List Seat
  pub stands : HasApplied shape_of seats_of s

-- a server that hasn't applied a turn that all have written
pub record MayApply (s : Server) : Type 0 where
  pub shape_of : Shape
  pub seats_of : List Seat
  pub turn_of : ℕ
  pub epoch_of : ℕ
  pub stands : StandsAt shape_of seats_of turn_of epoch_of s
  pub written : turn_of < turns_written shape_of seats_of

-- a server that has a new epoch
pub record MayTell (s : Server) : Type 0 where
  pub shape_of : Shape
  pub seats_of : List Seat
  pub turn_of : ℕ
  pub epoch_of : ℕ
  pub stands : StandsAt shape_of seats_of turn_of epoch_of s
  pub one_more : phases_over shape_of turn_of ≡ epoch_of + 1

-- ---- what is due

abbrev pub desk_at : Server → ℕ → DeskView
desk_at s c = slice_index_or s.desks.items c empty_desk

abbrev pub due_at : Server → ℕ → Due
due_at s c =
    record {
      client = c;
      write = s.turn + length (desk_at s c).waiting;
      read = (desk_at s c).asked;
    }

-- the next write of its client
pub record IsDueWrite (s : Server) (w : WriteFrame) : Type 0 where
  pub low : w.client < length s.desks.items
  pub is : IsWriteOf s.shape w.client (due_at s w.client).write w

-- the next read of its client
pub record IsDueRead (s : Server) (r : ReadFrame) : Type 0 where
  pub low : r.client < length s.desks.items
  pub is : IsReadDue s.shape r.client (due_at s r.client).read r
