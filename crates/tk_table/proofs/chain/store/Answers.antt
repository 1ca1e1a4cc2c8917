use Rattle.std.proofs.Common.{arith}
use Rattle.tk_table.proofs.Moving.{moving-on, at_step}
use Rattle.tk_table.proofs.chain.store.Goals as goal

pub loop-i-preserved : goal.loop-i-preserved
loop-i-preserved c =
    let at = c.place_of-from.ensures in
    moving-on _ _ _ _ _ _ _ c.loop-i.invariant
    (omega (arith, c.loop-i-test.true, c.requires.count)) c.sized.ensures.sizes
    (at_step c.step-in-loop-i.result _ _ _ at.bucket at.slot c.step-in-loop-i.ensures)
    c.move_slot.ensures.contents
