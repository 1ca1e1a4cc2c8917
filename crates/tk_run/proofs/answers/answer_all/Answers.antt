-- As many answers are given as there are servers.
use Rattle.std.proofs.Common.{◌∙◌}
use Rattle.tk_run.specs.Ranging.{bytes_made}
use Rattle.tk_run.proofs.answers.answer_all.Goals as goal

pub give_all-requires-clause-asked : goal.give_all-requires-clause-asked
give_all-requires-clause-asked g c = (
  c.requires.asked.0,
  c.in_ok-answers.ensures.counted ∙ c.requires.asked.1,
  c.requires.asked.2,
)

pub give_all-requires-clause-replies : goal.give_all-requires-clause-replies
give_all-requires-clause-replies g c = (
  bytes_made (g.A.Sums.sum c.args.sums.now) c.args.crew.shards,
  c.in_ok-answers.ensures.replies,
)

pub returns : goal.returns
returns g c =
    c.give_all.ensures (bytes_made (g.A.Sums.sum c.args.sums.now) c.args.crew.shards)
    c.in_ok-answers.ensures.replies
