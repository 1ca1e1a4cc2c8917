use Rattle.std.proofs.Common.{arith}
use Rattle.tk_table.proofs.Clearing.{clearing-on, clearing-ends}
use Rattle.tk_table.proofs.chain.clear_in.Goals as goal

pub loop-slot-preserved : goal.loop-slot-preserved
loop-slot-preserved c =
    clearing-on c.args.buckets.now.contents c.loop-slot.buckets.contents
    c.clear_if.new.buckets.contents c.args.position
    c.args.bucket c.loop-slot.slot c.sized.ensures.sizes c.requires.bucket
    (omega (arith, c.loop-slot-test.true, c.requires.depth)) c.loop-slot.invariant
    c.clear_if.ensures

pub returns : goal.returns
returns c =
    clearing-ends c.args.buckets.now.contents c.loop-slot.buckets.contents c.args.position c.args.bucket
    c.loop-slot.slot c.sized.ensures.sizes c.requires.bucket
    (omega (arith, c.loop-slot-test.false, c.requires.depth)) c.loop-slot.invariant
