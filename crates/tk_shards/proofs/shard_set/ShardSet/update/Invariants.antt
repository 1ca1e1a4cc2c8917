-- But for the numbers that are left, the blocks are the new ones.
use Rattle.std.proofs.Common.{drop}
use Rattle.tk_shards.proofs.Changing.{IsTaking}
use Rattle.tk_shards.proofs.shard_set.ShardSet.update.Given as goal

abbrev pub invariant-loop-i : goal.invariant-loop-i
invariant-loop-i g l = IsTaking l.fn.self (drop l.i-index l.changed) (g.B.Blocks.blocks l.blocks) l.self
