use Rattle.std.proofs.Common.{◌-◌}
use Rattle.tk_answer.specs.Summing.{IsSumming}
use Rattle.tk_answer.proofs.sum.answer.Given as goal

abbrev pub invariant-loop-done : goal.invariant-loop-done
invariant-loop-done g l =
    let B = g.B.Blocks in
    IsSumming (B.width l.blocks) (B.blocks l.blocks) l.vector l.done l.out

abbrev pub decreases-loop-done : goal.decreases-loop-done
decreases-loop-done g l = l.count - l.done
