-- What is refused, and why.
use Rattle.std.specs.Prelude.{◌≡◌, ◌⊎◌, ℕ, nat_lt, cond, List, Option, Some, None, option_map}
use Rattle.tk_frames.specs.declared.fault.FrameError.{FrameError}
use Rattle.tk_frames.specs.declared.fault.FrameError.TheVariants as faults
use Rattle.tk_frames.specs.Faults.{first_fault, read_checks}
use Rattle.tk_frames.specs.Fields.{read_in}
use Rattle.tk_frames.specs.Lists.{first_some}
use Rattle.tk_replica.specs.declared.error.PinError.{PinError}
use Rattle.tk_replica.specs.declared.error.PinError.TheVariants.{Ahead, Retired, Memory}
use Rattle.tk_replica.specs.declared.error.ServeError.{ServeError}
use Rattle.tk_replica.specs.declared.error.ServeError.TheVariants as serves
use Rattle.tk_replica.specs.Replica.{ReplicaView}

-- why epoch e isn't kept, if it isn't
abbrev pub pin_refusal : ReplicaView → ℕ → Option PinError
pin_refusal s e =
    cond (nat_lt s.last e) (Some (Ahead s.last))
    (cond (nat_lt e s.floor) (Some (Retired s.floor)) None)

-- a refusal is this one; where there is none, that memory ran out
abbrev pub IsPinRefusal : Option PinError → PinError → Type 0
IsPinRefusal None error = error ≡ Memory
IsPinRefusal (Some refusal) error = error ≡ refusal

-- the same, told of a read
abbrev pub serve_error : PinError → ServeError
serve_error (Ahead last) = serves.Ahead last
serve_error (Retired floor) = serves.Retired floor
serve_error Memory = serves.Memory

abbrev pub frame_error : FrameError → ServeError
frame_error faults.Memory = serves.Memory
frame_error fault = serves.Frame fault

-- the frame's own fault comes first
abbrev pub refusal_behind : Option FrameError → Option ServeError → Option ServeError
refusal_behind (Some fault) behind = Some (serves.Frame fault)
refusal_behind None behind = behind

-- why a frame isn't served, if it isn't
abbrev pub serve_refusal : ReplicaView → List ℕ → Option ServeError
serve_refusal s bytes =
    refusal_behind (first_fault (read_checks s.shape bytes))
    (option_map serve_error (pin_refusal s (read_in s.shape bytes).epoch))

-- memory ran out, or the refusal that there is
abbrev pub IsServeRefusal : Option ServeError → ServeError → Type 0
IsServeRefusal refusal error = (error ≡ serves.Memory) ⊎ (refusal ≡ Some error)

-- why some of these frames isn't served, if not all are: the first bad frame decides
abbrev pub first_refusal : ReplicaView → List (List ℕ) → Option ServeError
first_refusal s frames = first_some (serve_refusal s) frames
