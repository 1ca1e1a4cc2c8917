-- Of the blocks so far those whose numbers aren't listed are its own.
use Rattle.tk_shards.proofs.Changing.{IsFound}
use Rattle.tk_shards.proofs.shard_set.ShardSet.changes.Given as goal

abbrev pub invariant-loop-i : goal.invariant-loop-i
invariant-loop-i g l = IsFound l.i (g.B.Blocks.blocks l.blocks) l.self.blocks l.changed.items
