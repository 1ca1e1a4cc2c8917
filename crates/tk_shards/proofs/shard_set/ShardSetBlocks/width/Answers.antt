use Rattle.tk_shards.proofs.Totals.{AllSized-blocks}
use Rattle.tk_shards.proofs.shard_set.ShardSetBlocks.width.Goals as goal

pub returns-clause-each : goal.returns-clause-each
returns-clause-each c =
    let s = c.self.inside in
    rw (← c.self.view_is) (AllSized-blocks s.width s.shards.items c.self.invariant.sized)
