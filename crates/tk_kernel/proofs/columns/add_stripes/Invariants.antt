use Rattle.std.proofs.Common.{◌≡◌, ℕ, ◌-◌, ◌≤◌, List, length, Vec, Global}
use Rattle.std.specs.List.{All}
use Rattle.tk_kernel.specs.Stripes.{IsFront}
use Rattle.tk_kernel.proofs.columns.add_stripes.Given as goal

abbrev pub invariant-loop-i : goal.invariant-loop-i
invariant-loop-i g l =
    (l.i ≤ l.pass.size)
    × (length l.sums ≡ length l.fn.sums)
    × (All (λ v. v.len ≡ l.pass.size) l.sums)
    × ((start : List (Vec ℕ Global)) → All (λ v. v.len ≡ l.pass.size) start
    → IsFront l.pass.size l.pass.bytes l.pass.blocks.now l.words start l.from l.fn.sums
    → IsFront l.pass.size l.pass.bytes l.pass.blocks.now l.words start l.i l.sums)

abbrev pub decreases-loop-i : goal.decreases-loop-i
decreases-loop-i g l = l.pass.size - l.i
