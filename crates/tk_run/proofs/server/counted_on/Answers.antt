-- One more at most.
use Rattle.std.proofs.Common.{arith}
use Rattle.tk_report.proofs.Offers.{displaced-most}
use Rattle.tk_run.proofs.server.counted_on.Goals as goal

pub returns-clause-counts : goal.returns-clause-counts
returns-clause-counts c shape E p before is =
    let same = c.displaced_with.ensures shape E p before is in
    omega (arith, same, displaced-most shape E p c.args.before c.args.put before is, c.min.ensures)
