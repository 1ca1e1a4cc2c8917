-- One count more is one digit more.
use Rattle.std.proofs.Common.{arith}
use Rattle.tk_bloom.proofs.Packing.{number-more}
use Rattle.tk_bloom.proofs.marks.number_of.Goals as goal

pub left-preserved : goal.left-preserved
left-preserved c =
    let so_far = c.left.invariant in
    let more =
    number-more c.args.counts.now c.left.left c.left.number c.left-test.true so_far.0 so_far.1 so_far.2
    in
    (omega (arith, so_far.0), rw c.from.ensures more.0, rw c.from.ensures more.1)
