-- What a server keeps of a client's seat.
use Rattle.std.specs.Prelude.{◌≡◌, ℕ, ◌+◌, ◌*◌, ◌<◌, ◌≤◌, List, [], ◌∷◌, ◌++◌, length, drop, map, slice_index_or}
use Rattle.std.specs.List.{range_with_len}
use Rattle.tk_shape.specs.declared.shape.Shape.{Shape}
use Rattle.tk_shape.specs.Lengths.{turn_count}
use Rattle.tk_schedule.specs.declared.item.Item.TheVariants.{Client}
use Rattle.tk_frames.specs.declared.write_frame.WriteFrame.{WriteFrame}
use Rattle.tk_frames.specs.declared.read_frame.ReadFrame.{ReadFrame}
use Rattle.tk_frames.specs.declared.entry.Placed.{Placed}
use Rattle.tk_frames.specs.Order.{records}
use Rattle.tk_frames.specs.Ranges.{IsWrite}
use Rattle.tk_replica.specs.Replica.{ReplicaView, StandsFor}
use Rattle.tk_frames.specs.declared.entry.Entry.{Entry}
use Rattle.tk_frames.specs.InOrder.{IsNext}
use Rattle.tk_schedule.specs.Schedule.{serial_history}
use Rattle.tk_report.specs.Entries.{placed_after, entries_before}
use Rattle.tk_report.specs.Turns.{next_placed}
use Rattle.tk_serve.specs.Seats.{Seat}
use Rattle.tk_serve.specs.Told.{turns_read}

-- the writes that wait for those of others, the reads that wait for their epoch, and how many reads came
pub record DeskView : Type 0 where
  pub waiting : List WriteFrame
  pub asking : List ReadFrame
  pub asked : ℕ

abbrev pub desk : List WriteFrame → List ReadFrame → ℕ → DeskView
desk waiting asking asked = record { waiting = waiting; asking = asking; asked = asked }

abbrev pub empty_desk : DeskView
empty_desk = desk [] [] 0

-- where the writes of g turns are in the order, and epoch n is the newest
abbrev pub desk_by : Shape → ℕ → ℕ → Seat → DeskView
desk_by shape g n s =
    desk (drop g s.writes) (drop (turns_read shape n) s.reads) (length s.reads)

-- the first write that waits is taken
abbrev pub desk_behind : DeskView → DeskView
desk_behind d = desk (drop 1 d.waiting) d.asking d.asked

-- the first so many reads that wait are answered
abbrev pub desk_answered : ℕ → DeskView → DeskView
desk_answered count d = desk d.waiting (drop count d.asking) d.asked

-- ---- a turn that is applied

-- a write stands first among those that wait
pub record WaitsFirst (shape : Shape) (w : WriteFrame) (d : DeskView) : Type 0 where
  pub in_range : IsWrite shape w
  pub first : d.waiting ≡ w ∷ drop 1 d.waiting

-- Of each client a write waits, and there is room for one more of each in the order.
pub record MayTakeTurn (shape : Shape) (E : List Placed) (write : ℕ → WriteFrame) (state : ReplicaView)
    (desks : List DeskView) : Type 0 where
  pub stands : StandsFor shape E state
  pub room : length (records E) + length desks ≤ shape.clients * turn_count shape
  pub wait : (i : ℕ) (d : DeskView) → i < length desks →
      WaitsFirst shape (write i) (slice_index_or desks i d)

pub record TakesTurn (state : ReplicaView) (desks : List DeskView) : Type 0 where
  pub shape_of : Shape
  pub entries_of : List Placed
  pub write_of : ℕ → WriteFrame
  pub may : MayTakeTurn shape_of entries_of write_of state desks

-- this holds of all writes that may be the turn that is taken
abbrev pub ForWaiting : ReplicaView → List DeskView → (Shape → List Placed → (ℕ → WriteFrame) → Type 0) → Type 0
ForWaiting state desks Holds =
    (shape : Shape) (E : List Placed) (write : ℕ → WriteFrame) → MayTakeTurn shape E write state desks →
    Holds shape E write

-- the entries with the writes of the first i clients of a turn
abbrev pub with_writes : List Placed → (ℕ → WriteFrame) → ℕ → List Placed
with_writes E write i = E ++ placed_after write E (map Client (range_with_len 0 i))

-- an entry may be the next one that a state applies
pub record MayComeNext (state : ReplicaView) (entry : Entry) : Type 0 where
  pub shape_of : Shape
  pub entries_of : List Placed
  pub stands : StandsFor shape_of entries_of state
  pub next : IsNext shape_of entries_of (next_placed entries_of entry)

-- the entries before a turn, and the writes of all clients in it
abbrev pub turn_writes : Shape → (ℕ → ℕ → WriteFrame) → ℕ → List Placed
turn_writes shape write g = with_writes (entries_before write (serial_history shape) g) (write g) shape.clients

-- a state that has applied these
pub record HasWrites (shape : Shape) (g : ℕ) (state : ReplicaView) : Type 0 where
  pub write_of : ℕ → ℕ → WriteFrame
  pub stands : StandsFor shape (turn_writes shape write_of g) state

-- this holds of all writes for which it has
abbrev pub ForWritten : Shape → ℕ → ReplicaView → ((ℕ → ℕ → WriteFrame) → Type 0) → Type 0
ForWritten shape g state Holds =
    (write : ℕ → ℕ → WriteFrame) → StandsFor shape (turn_writes shape write g) state → Holds write

-- the entries up to a turn's end
abbrev pub turns_through : Shape → (ℕ → ℕ → WriteFrame) → ℕ → List Placed
turns_through shape write g = entries_before write (serial_history shape) (g + 1)
