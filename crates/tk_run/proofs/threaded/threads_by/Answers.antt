-- A run that isn't opened gives the taps nothing.
use Rattle.tk_run.specs.Ranging.{over_ranges}
use Rattle.tk_run.proofs.Stopping.{came_nowhere}
use Rattle.tk_run.proofs.threaded.threads_by.Goals as goal

pub returns-in_err-blank-clause-run : goal.returns-in_err-blank-clause-run
returns-in_err-blank-clause-run g c =
    let S = c.args.script.now in
    let book = g.D.Draws.book c.args.draws.now in
    let V = over_ranges S book c.args.shards (g.A.Sums.sum c.args.sums.now) in
    came_nowhere S book V _ c.from_residual.result c.from_residual.ensures.1
    (g.T.Taps.tap c.args.taps.now)
