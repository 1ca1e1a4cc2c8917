-- The entries so far are seen.
use Rattle.std.proofs.Common.{◌+◌, ℕ, drop}
use Rattle.std.specs.Prelude.{flat_map}
use Rattle.tk_schedule.specs.Schedule.{phase_of}
use Rattle.tk_frames.specs.declared.write_frame.WriteFrame.{WriteFrame}
use Rattle.tk_frames.specs.Spelling.{placed_frame}
use Rattle.tk_report.specs.Entries.{placed_from}
use Rattle.tk_run.specs.Acting.{AreFrames}
use Rattle.tk_run.specs.Courses.{entries_behind}
use Rattle.tk_run.proofs.Entering.{SeenTo}
use Rattle.tk_run.proofs.tap_bytes.entries_from.Given as goal

abbrev pub invariant-items : goal.invariant-items
invariant-items l =
    let phase = phase_of l.shape l.turn in
    let start = entries_behind l.shape l.turn + 1 in
    (write : ℕ → WriteFrame) → AreFrames l.shape write l.frames →
    SeenTo write phase (start + l.i) (drop l.i l.order) l.bytes.items
    (flat_map placed_frame (placed_from write start phase l.order))
