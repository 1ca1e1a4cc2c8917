-- Which frames are refused, and why.
use Rattle.std.specs.Prelude.{◌≡◌, ◌≢◌, ◌⊎◌, ℕ, nat_eq, cond, List, Option, Some, None}
use Rattle.tk_shape.specs.declared.shape.Shape.{Shape}
use Rattle.tk_frames.specs.declared.read_frame.ReadFrame.{ReadFrame}
use Rattle.tk_frames.specs.declared.write_frame.WriteFrame.{WriteFrame}
use Rattle.tk_frames.specs.declared.fault.FrameError.{FrameError}
use Rattle.tk_frames.specs.declared.fault.FrameError.TheVariants as faults
use Rattle.tk_frames.specs.Faults.{first_fault, read_checks, write_checks}
use Rattle.tk_frames.specs.Fields.{read_in}
use Rattle.tk_frames.specs.Lists.{first_some}
use Rattle.tk_frames.specs.Ranges.{IsRead, IsWrite}
use Rattle.tk_frames.specs.Spelling.{read_frame, write_frame}
use Rattle.tk_cluster.specs.declared.error.AnswerError.{AnswerError}
use Rattle.tk_cluster.specs.declared.error.AnswerError.TheVariants.{Frame, Epoch, Memory}
use Rattle.tk_cluster.specs.declared.set.EpochSet.{EpochSet}
use Rattle.tk_cluster.specs.declared.error.WriteError.{WriteError}
use Rattle.tk_cluster.specs.declared.error.WriteError.TheVariants as writes

-- a frame's fault, told of a read and of a write
abbrev pub answer_error : FrameError → AnswerError
answer_error faults.Memory = Memory
answer_error fault = Frame fault

abbrev pub write_error : FrameError → WriteError
write_error faults.Memory = writes.Memory
write_error fault = writes.Frame fault

-- the bytes spell this read, which is in range
pub record SpellsRead (shape : Shape) (bytes : List ℕ) (r : ReadFrame) : Type 0 where
  pub in_range : IsRead shape r
  pub spelled : bytes ≡ read_frame r

-- and this write
pub record SpellsWrite (shape : Shape) (bytes : List ℕ) (w : WriteFrame) : Type 0 where
  pub in_range : IsWrite shape w
  pub spelled : bytes ≡ write_frame w

-- the read that the bytes spell names another epoch
pub record NamesOther (shape : Shape) (bytes : List ℕ) (number want got : ℕ) : Type 0 where
  pub read : ReadFrame
  pub spells : SpellsRead shape bytes read
  pub want_is : want ≡ number
  pub got_is : got ≡ read.epoch
  pub apart : got ≢ want

-- the write that the bytes spell is of another client
pub record OfAnother (shape : Shape) (bytes : List ℕ) (client want got : ℕ) : Type 0 where
  pub write : WriteFrame
  pub spells : SpellsWrite shape bytes write
  pub want_is : want ≡ client
  pub got_is : got ≡ write.client
  pub apart : got ≢ want

-- why the set of a number doesn't answer these bytes
abbrev pub IsAnswerRefusal : Shape → ℕ → List ℕ → AnswerError → Type 0
IsAnswerRefusal shape number bytes (Frame fault) =
    first_fault (read_checks shape bytes) ≡ Some fault
IsAnswerRefusal shape number bytes (Epoch want got) = NamesOther shape bytes number want got
IsAnswerRefusal shape number bytes Memory = Unit {0}

-- the frame's own fault comes first
abbrev pub refusal_behind : Option FrameError → Option AnswerError → Option AnswerError
refusal_behind (Some fault) behind = Some (Frame fault)
refusal_behind None behind = behind

-- an epoch is named that isn't the set's
abbrev pub other_epoch : ℕ → ℕ → Option AnswerError
other_epoch number named = cond (nat_eq named number) None (Some (Epoch number named))

-- why the set of a number doesn't answer these bytes, if it doesn't
abbrev pub answer_refusal : Shape → ℕ → List ℕ → Option AnswerError
answer_refusal shape number bytes =
    refusal_behind (first_fault (read_checks shape bytes))
    (other_epoch number (read_in shape bytes).epoch)

-- why it doesn't answer these frames, if not all are answered: the first bad frame decides
abbrev pub first_unanswered : Shape → ℕ → List (List ℕ) → Option AnswerError
first_unanswered shape number frames = first_some (answer_refusal shape number) frames

-- memory ran out, or the refusal that there is
abbrev pub IsManyRefusal : Option AnswerError → AnswerError → Type 0
IsManyRefusal refusal error = (error ≡ Memory) ⊎ (refusal ≡ Some error)

-- why the pass of a client doesn't write these bytes
abbrev pub IsWriteRefusal : Shape → ℕ → List ℕ → WriteError → Type 0
IsWriteRefusal shape client bytes (writes.Frame fault) =
    first_fault (write_checks shape bytes) ≡ Some fault
IsWriteRefusal shape client bytes (writes.Client want got) = OfAnother shape bytes client want got
IsWriteRefusal shape client bytes writes.Memory = Unit {0}

-- the bytes spell a read of the set's epoch
pub record IsAsked (set : EpochSet) (bytes : List ℕ) : Type 0 where
  pub read : ReadFrame
  pub spells : SpellsRead set.shape bytes read
  pub named : read.epoch ≡ set.number
