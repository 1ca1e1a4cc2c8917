-- What a frame is found to be.
use Rattle.std.specs.Prelude.{◌≡◌, ℕ, ◌==◌, Bool, true, false, List, drop, slice_index, Some, None}
use Rattle.tk_shape.specs.declared.shape.Shape.{Shape}
use Rattle.tk_frames.specs.declared.write_frame.WriteFrame.{WriteFrame}
use Rattle.tk_frames.specs.declared.read_frame.ReadFrame.{ReadFrame}
use Rattle.tk_frames.specs.declared.fault.FrameError.{FrameError}
use Rattle.tk_frames.specs.Fields.{write_in, read_in}
use Rattle.tk_serve.specs.declared.due.Due.{Due}
use Rattle.tk_serve.specs.declared.refusal.Refusal.{Refusal}
use Rattle.tk_serve.specs.declared.check.Checked.{Checked}
use Rattle.tk_serve.specs.declared.check.Checked.TheVariants.{Write, Read, Refused}
use Rattle.tk_serve.specs.Seats.{IsWriteOf, IsReadDue}
use Rattle.tk_serve.specs.Refusals.{of_fault, write_refusal, read_refusal, refusal_by}

-- it is the write that is due
pub record IsTakenWrite (shape : Shape) (due : Due) (bytes : List ℕ) (w : WriteFrame) : Type 0 where
  pub spelled : w ≡ write_in shape (drop 2 bytes)
  pub is_next : IsWriteOf shape due.client due.write w

-- it is the read that is due
pub record IsTakenRead (shape : Shape) (due : Due) (bytes : List ℕ) (r : ReadFrame) : Type 0 where
  pub spelled : r ≡ read_in shape bytes
  pub is_next : IsReadDue shape due.client due.read r

-- a frame that begins as a write
abbrev pub IsWriteChecked : Shape → Due → List ℕ → Checked → Type 0
IsWriteChecked shape due bytes (Write w) =
    (write_refusal shape due bytes ≡ None) × IsTakenWrite shape due bytes w
IsWriteChecked shape due bytes (Read r) = ⊥
IsWriteChecked shape due bytes (Refused cause) = write_refusal shape due bytes ≡ Some cause

-- a frame that begins as a read
abbrev pub IsReadChecked : Shape → Due → List ℕ → Checked → Type 0
IsReadChecked shape due bytes (Write w) = ⊥
IsReadChecked shape due bytes (Read r) =
    (read_refusal shape due bytes ≡ None) × IsTakenRead shape due bytes r
IsReadChecked shape due bytes (Refused cause) = read_refusal shape due bytes ≡ Some cause

-- a frame that isn't refused, and whether it begins as a write
pub record IsAccepted (shape : Shape) (due : Due) (bytes : List ℕ) (kind : Bool) : Type 0 where
  pub none : refusal_by shape due bytes ≡ None
  pub begins : (slice_index bytes 0 == 1) ≡ kind

-- any frame
abbrev pub IsChecked : Shape → Due → List ℕ → Checked → Type 0
IsChecked shape due bytes (Write w) =
    IsAccepted shape due bytes true × IsTakenWrite shape due bytes w
IsChecked shape due bytes (Read r) =
    IsAccepted shape due bytes false × IsTakenRead shape due bytes r
IsChecked shape due bytes (Refused cause) = refusal_by shape due bytes ≡ Some cause

-- a frame with a fault of its own is refused for it
pub record IsRefusedForFrame (error : FrameError) (x : Checked) : Type 0 where
  pub cause : Refusal
  pub refused : x ≡ Refused cause
  pub is : of_fault error ≡ Some cause
