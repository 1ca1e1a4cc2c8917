-- The sums so far are those over the ranges so far.
use Rattle.std.proofs.Common.{take}
use Rattle.tk_shards.proofs.Summed.{AreSums}
use Rattle.tk_shards.proofs.parts.sums_over.Given as goal

abbrev pub invariant-loop-shard : goal.invariant-loop-shard
invariant-loop-shard l = AreSums l.width (take l.shard-index l.shards) l.rows l.sums.items
