-- One more list has no frames.
use Rattle.tk_run.specs.Rows.{no_frames}
use Rattle.tk_run.proofs.RowsLaws.{rows-none, rows-push}
use Rattle.tk_run.proofs.frames.empty_rows.Goals as goal

pub loop-init : goal.loop-init
loop-init c = rows-none no_frames c.new-rows.result.items c.new-rows.ensures.items

pub loop-preserved : goal.loop-preserved
loop-preserved c =
    rows-push c.loop.counter c.loop.rows.items c.push.new.self.items c.new.result c.new.ensures
    c.in_ok-push.ensures.items c.loop.invariant
