use Rattle.tk_shards.proofs.Ranges.{sum-of-ranges}
use Rattle.tk_shards.proofs.laws.ranges_make_the_sum.Goals as goal

pub returns : goal.returns
returns c = λ width blocks vector d each count kept. sum-of-ranges width blocks vector each d count kept
