-- Which frames a server takes of a client, and why it refuses any other.
use Rattle.std.specs.Prelude.{ℕ, ◌==◌, ◌||◌, ◌&&◌, Bool, cond, List, length, drop, slice_index, Option, Some, None}
use Rattle.tk_shape.specs.declared.shape.Shape.{Shape}
use Rattle.tk_schedule.specs.Schedule.{phases_over}
use Rattle.tk_frames.specs.declared.write_frame.WriteFrame.{WriteFrame}
use Rattle.tk_frames.specs.declared.read_frame.ReadFrame.{ReadFrame}
use Rattle.tk_frames.specs.declared.fault.Name.{Name}
use Rattle.tk_frames.specs.declared.fault.Name.TheVariants as name
use Rattle.tk_frames.specs.declared.fault.FrameError.{FrameError}
use Rattle.tk_frames.specs.declared.fault.FrameError.TheVariants as fault
use Rattle.tk_frames.specs.Faults.{first_fault, write_checks, read_checks}
use Rattle.tk_frames.specs.Fields.{write_in, read_in}
use Rattle.tk_serve.specs.declared.refusal.Refusal.{Refusal}
use Rattle.tk_serve.specs.declared.refusal.Refusal.TheVariants as refusal
use Rattle.tk_serve.specs.declared.due.Due.{Due}
use Rattle.tk_serve.specs.Seats.{Seat, seat_of}

-- ---- causes

-- the byte that tells a cause
abbrev pub field_code : Name → ℕ
field_code name.Client = 7
field_code name.Turn = 8
field_code name.First = 9
field_code name.Second = 10
field_code name.Hit = 11
field_code name.Epoch = 12
field_code name.Position = 13

abbrev pub code_of : Refusal → ℕ
code_of refusal.Kind = 1
code_of refusal.Length = 2
code_of refusal.Version = 3
code_of refusal.OtherClient = 4
code_of refusal.OtherTurn = 5
code_of refusal.OtherEpoch = 6
code_of (refusal.Range n) = field_code n

-- the cause that a frame's own fault is; want of memory is none
abbrev pub of_fault : FrameError → Option Refusal
of_fault (fault.Length want got) = Some refusal.Length
of_fault (fault.Kind got) = Some refusal.Kind
of_fault (fault.Version got) = Some refusal.Version
of_fault (fault.Field n got) = Some (refusal.Range n)
of_fault fault.Memory = None

-- ---- what is due

-- the next write and read of a client
abbrev pub due_of : List Seat → ℕ → Due
due_of seats c =
    record {
      client = c;
      write = length (seat_of seats c).writes;
      read = length (seat_of seats c).reads;
    }

abbrev pub unless : Bool → Refusal → Option Refusal → Option Refusal
unless holds cause behind = cond holds behind (Some cause)

-- a frame's own first fault comes before what is due
abbrev pub after_fault : Option FrameError → Option Refusal → Option Refusal
after_fault None behind = behind
after_fault (Some f) behind = of_fault f

abbrev pub write_misplaced : Due → WriteFrame → Option Refusal
write_misplaced due w =
    unless (w.client == due.client) refusal.OtherClient
    (unless (w.turn == due.write) refusal.OtherTurn None)

abbrev pub read_misplaced : Shape → Due → ReadFrame → Option Refusal
read_misplaced shape due r =
    unless (r.client == due.client) refusal.OtherClient
    (unless (r.turn == due.read) refusal.OtherTurn
    (unless (r.epoch == phases_over shape r.turn) refusal.OtherEpoch None))

unfoldable pub write_refusal : Shape → Due → List ℕ → Option Refusal
write_refusal shape due bytes =
    after_fault (first_fault (write_checks shape bytes))
    (write_misplaced due (write_in shape (drop 2 bytes)))

unfoldable pub read_refusal : Shape → Due → List ℕ → Option Refusal
read_refusal shape due bytes =
    after_fault (first_fault (read_checks shape bytes))
    (read_misplaced shape due (read_in shape bytes))

-- the kinds of reads; in format 1 there is one
abbrev pub is_read_kind : Shape → ℕ → Bool
is_read_kind shape kind = kind == 2 || (shape.format == 2 && (kind == 6 || kind == 7))

-- why a frame isn't taken, if it isn't; no frame has kind 0
unfoldable pub refusal_by : Shape → Due → List ℕ → Option Refusal
refusal_by shape due bytes =
    let kind = slice_index bytes 0 in
    cond (kind == 1) (write_refusal shape due bytes)
    (cond (is_read_kind shape kind) (read_refusal shape due bytes) (Some refusal.Kind))

abbrev pub refusal_of : Shape → List Seat → ℕ → List ℕ → Option Refusal
refusal_of shape seats c bytes = refusal_by shape (due_of seats c) bytes
