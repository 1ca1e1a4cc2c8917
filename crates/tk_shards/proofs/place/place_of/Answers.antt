use Rattle.std.proofs.Common.{arith}
use Rattle.tk_shards.proofs.Row.{found-in}
use Rattle.tk_shards.proofs.place.place_of.Goals as goal

pub returns : goal.returns
returns c =
    let was = c.loop-high.invariant in
    found-in c.args.shards.now c.args.i c.loop-high.low c.loop-high.high c.requires.row c.requires.within was.order
    (omega (arith, was.order, c.loop-high-test.false)) was.within was.begun was.later
