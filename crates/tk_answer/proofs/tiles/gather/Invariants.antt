-- The blocks so far lie one after the other.
use Rattle.std.proofs.Common.{◌≡◌, ◌-◌, ◌≤◌, take, drop}
use Rattle.std.specs.List.{concat}
use Rattle.tk_answer.proofs.tiles.gather.Given as goal

abbrev pub invariant-loop-done : goal.invariant-loop-done
invariant-loop-done g l =
    let B = g.B.Blocks in
    (l.from ≤ l.done) × (l.done ≤ l.end)
    × (l.gathered.items ≡ concat (take (l.done - l.from) (drop l.from (B.blocks l.blocks))))

abbrev pub decreases-loop-done : goal.decreases-loop-done
decreases-loop-done g l = l.end - l.done
