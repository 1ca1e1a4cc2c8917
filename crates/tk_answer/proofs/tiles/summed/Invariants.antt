-- Each sum is made up to the next tile.
use Rattle.std.proofs.Common.{◌≡◌, ◌-◌, ◌%◌}
use Rattle.tk_answer.specs.Summing.{AreSumming}
use Rattle.tk_answer.proofs.tiles.summed.Given as goal

abbrev pub invariant-loop-done : goal.invariant-loop-done
invariant-loop-done g l =
    let B = g.B.Blocks in
    (l.done % 8 ≡ 0) × AreSumming (B.width l.blocks) (B.blocks l.blocks) l.vectors l.done l.sums.items

abbrev pub decreases-loop-done : goal.decreases-loop-done
decreases-loop-done g l = l.count - l.done
