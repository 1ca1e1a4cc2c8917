-- Each time there is one pass less.
use Rattle.std.proofs.Common.{length}
use Rattle.tk_cluster.proofs.cluster.Cluster.+gather.Given as goal

abbrev pub decreases-gather : goal.decreases-gather
decreases-gather g l = length l.passes.now
