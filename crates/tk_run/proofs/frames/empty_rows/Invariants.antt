-- So far there are lists without frames.
use Rattle.tk_run.specs.Rows.{AreRows, no_frames}
use Rattle.tk_run.proofs.frames.empty_rows.Given as goal

abbrev pub invariant-loop : goal.invariant-loop
invariant-loop l = AreRows l.counter no_frames l.rows.items
