use Rattle.std.proofs.Common.{◌∙◌, arith}
use Rattle.tk_shards.proofs.Changing.{taking-more, taking-beyond, taking-all}
use Rattle.tk_shards.proofs.shard_set.ShardSet.update.Goals.{then-i-count, else-i-count}
use Rattle.tk_shards.proofs.shard_set.ShardSet.update.Goals as goal

pub loop-i-preserved : goal.loop-i-preserved
loop-i-preserved g c =
    let at = c.loop-i in
    let new = g.B.Blocks.blocks c.args.blocks.now in
    let less = c.loop-i-test.true in
    elim c.if-i-count.branch [
      | then-i-count w ↦
          taking-more c.args.self.now c.args.changed.now new at.i-index at.self c.if-i-count.self less at.invariant
          (omega (arith, w.if-i-count.true, c.count.ensures)) (w.self-is ∙ w.put.ensures)
      | else-i-count w ↦
          taking-beyond c.args.self.now c.args.changed.now new at.i-index at.self c.if-i-count.self less at.invariant
          (omega (arith, w.if-i-count.false, c.count.ensures)) w.self-is
    ]

pub returns : goal.returns
returns g c =
    taking-all c.args.self.now c.args.changed.now (g.B.Blocks.blocks c.args.blocks.now) c.loop-i.i-index c.loop-i.self
    c.loop-i-test.false c.loop-i.invariant
