-- Which faults a call may tell.
use Rattle.std.specs.Prelude.{◌≡◌, Option, Some}
use Rattle.tk_client.specs.declared.say_error.SayError.{SayError}
use Rattle.tk_client.specs.declared.say_error.SayError.TheVariants as saying
use Rattle.tk_client.specs.declared.take_error.TakeError.{TakeError}
use Rattle.tk_client.specs.declared.take_error.TakeError.TheVariants as taking
use Rattle.tk_frames.specs.declared.fault.FrameError.{FrameError}
use Rattle.tk_frames.specs.declared.fault.FrameError.TheVariants as framing
use Rattle.tk_replica.specs.declared.error.PinError.{PinError}
use Rattle.tk_replica.specs.declared.error.PinError.TheVariants as pinning
use Rattle.tk_replica.specs.declared.error.ServeError.{ServeError}
use Rattle.tk_replica.specs.declared.error.ServeError.TheVariants as serving
use Rattle.embed.specs.declared.fault.Fault.{Fault}
use Rattle.embed.specs.declared.fault.Fault.TheVariants.{Say, Frame, Pin, Serve, Take, Memory}

-- ---- what an error of a call tells: that memory ran out is the same wherever it comes

abbrev pub told_say : SayError → Fault
told_say saying.Memory = Memory
told_say error = Say error

abbrev pub told_frame : FrameError → Fault
told_frame framing.Memory = Memory
told_frame error = Frame error

abbrev pub told_pin : PinError → Fault
told_pin pinning.Memory = Memory
told_pin error = Pin error

abbrev pub told_serve : ServeError → Fault
told_serve serving.Memory = Memory
told_serve error = Serve error

abbrev pub told_take : TakeError → Fault
told_take taking.Memory = Memory
told_take error = Take error

-- ---- which faults may come

-- a fault of a read
abbrev pub IsReadFault : Fault → Type 0
IsReadFault (Pin error) = Unit {0}
IsReadFault (Serve error) = Unit {0}
IsReadFault (Take error) = Unit {0}
IsReadFault Memory = Unit {0}
IsReadFault _ = ⊥

-- a fault of a text that is said and read, where this is what is wrong with it, if something is
abbrev pub IsTalkFault : Option SayError → Fault → Type 0
IsTalkFault wrong (Say error) = wrong ≡ Some error
IsTalkFault wrong fault = IsReadFault fault
