use Rattle.tk_shards.specs.Packing.{ranged}
use Rattle.tk_shards.proofs.Padding.{AllSized-padded}
use Rattle.tk_shards.proofs.Packed.{AllSized-ranged}
use Rattle.tk_shards.proofs.shard.ShardBlocks.width.Goals as goal

pub returns-clause-each : goal.returns-clause-each
returns-clause-each c =
    let s = c.self.inside in
    rw (← c.self.view_is)
    (AllSized-padded (ranged s.width s.first s.count s.bytes.items)
    (AllSized-ranged s.width s.first s.count s.bytes.items c.self.invariant))
