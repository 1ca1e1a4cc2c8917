use Rattle.std.proofs.Common.{◌<◌, length, ap, arith}
use Rattle.tk_shards.specs.Ranged.{Ranged}
use Rattle.tk_shards.proofs.Packed.{own-run}
use Rattle.tk_shards.proofs.shard.Shard.blocks_from.Goals as goal

pub returns : goal.returns
returns c =
    let s = c.self.inside in
    let low : c.args.i < s.count =
    omega (arith, ap (λ (r : Ranged). length r.blocks) c.self.view_is, c.requires, c.self.invariant.counted) in
    rw (← c.self.view_is, c.deref.ensures.value)
    (own-run s.width s.first s.count s.bytes.items c.self.invariant c.args.i low)
