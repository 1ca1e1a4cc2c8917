use Rattle.std.proofs.Common.{◌≡◌, ◌+◌, ◌<◌, All}
use Rattle.tk_table_tests.proofs.table_tests.play.Given as goal

abbrev pub invariant-loop-i : goal.invariant-loop-i
invariant-loop-i l =
    (l.table.shape.buckets ≡ 8)
    × (l.table.shape.block ≡ 24)
    × All (λ p. p < l.i + 1) l.table.positions
