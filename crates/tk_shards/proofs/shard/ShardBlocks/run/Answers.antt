use Rattle.std.proofs.Common.{◌<◌, length, ap, arith}
use Rattle.tk_shards.specs.Ranged.{Ranged, padded}
use Rattle.tk_shards.specs.Packing.{ranged}
use Rattle.tk_shards.proofs.Packed.{padded-run}
use Rattle.tk_shards.proofs.shard.ShardBlocks.run.Goals as goal

pub returns : goal.returns
returns c =
    let s = c.self.inside in
    let low : c.args.i < length (padded (ranged s.width s.first s.count s.bytes.items)) =
    omega (arith, ap (λ (r : Ranged). length (padded r)) c.self.view_is, c.requires) in
    rw (← c.self.view_is, c.deref.ensures.value)
    (padded-run s.width s.first s.count s.bytes.items c.self.invariant c.args.i low)
