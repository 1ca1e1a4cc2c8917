-- Each server is one of the shape.
use Rattle.std.proofs.Common.{arith, rules}
use Rattle.tk_run.proofs.answers.reply_at.Goals as goal

pub for_each_mut-requires-clause-accepts : goal.for_each_mut-requires-clause-accepts
for_each_mut-requires-clause-accepts g c κs within i p low same = (
  (
    search rules,
    search rules,
    (c.requires.asked.0, omega (arith, low, c.requires.asked.1), c.requires.asked.2),
  ),
  search rules,
)
