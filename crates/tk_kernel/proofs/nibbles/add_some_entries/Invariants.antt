use Rattle.std.proofs.Common.{◌≡◌, ◌%◌, length}
use Rattle.std.specs.Simd.Lanes.{chunk}
use Rattle.tk_kernel.specs.Nibbles.{taken}
use Rattle.tk_kernel.proofs.nibbles.add_some_entries.Given as goal

abbrev pub invariant-loop-rest : goal.invariant-loop-rest
invariant-loop-rest g l =
    (length l.rest % 2 ≡ 0)
    × (taken l.rest l.sum l.left ≡ taken l.tables (chunk l.i g.row.N l.dst) l.word)

abbrev pub decreases-loop-rest : goal.decreases-loop-rest
decreases-loop-rest g l = length l.rest
