-- The frames of the clients so far.
use Rattle.std.proofs.Common.{◌≡◌, map, take}
use Rattle.tk_run.specs.Answering.{frame_of}
use Rattle.tk_run.proofs.replies.frames_for.Given as goal

abbrev pub invariant-readings : goal.invariant-readings
invariant-readings l = l.frames.items ≡ map (frame_of l.server) (take l.reading-index l.readings)
