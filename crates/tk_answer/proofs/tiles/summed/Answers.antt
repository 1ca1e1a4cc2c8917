use Rattle.std.proofs.Common.{arith}
use Rattle.tk_answer.proofs.ManySums.{begun, all_summed}
use Rattle.tk_answer.proofs.tiles.summed.Goals as goal

pub loop-done-init : goal.loop-done-init
loop-done-init g c =
    let told = c.width.ensures in
    let zeros = rw told.width at c.in_ok-sums.ensures.each in
    (omega arith, begun _ _ _ told.some told.each _ c.in_ok-sums.ensures.count zeros)

pub returns : goal.returns
returns g c =
    let told = c.width.ensures in
    all_summed _ _ _ told.some told.each _ _ (omega (arith, c.count-count.ensures, c.loop-done-test.false)) c.loop-done.invariant.1
