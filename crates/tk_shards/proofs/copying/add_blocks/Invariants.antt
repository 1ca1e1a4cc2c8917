-- The blocks so far lie behind what was there.
use Rattle.std.proofs.Common.{◌≡◌, ◌-◌, ◌≤◌, ◌++◌, take, drop}
use Rattle.std.specs.List.{concat}
use Rattle.tk_shards.proofs.copying.add_blocks.Given as goal

abbrev pub invariant-loop-done : goal.invariant-loop-done
invariant-loop-done g l =
    let blocks = g.B.Blocks.blocks l.blocks in
    (l.from ≤ l.done) × (l.done ≤ l.end)
    × (l.bytes.items ≡ l.fn.bytes.items ++ concat (take (l.done - l.from) (drop l.from blocks)))

abbrev pub decreases-loop-done : goal.decreases-loop-done
decreases-loop-done g l = l.end - l.done
