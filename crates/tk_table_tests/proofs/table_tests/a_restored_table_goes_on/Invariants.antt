-- The table keeps its sizes, and no write came yet that is due.
use Rattle.std.proofs.Common.{◌≡◌, ◌+◌, ◌<◌, All}
use Rattle.tk_table_tests.proofs.table_tests.a_restored_table_goes_on.Given as goal

abbrev pub invariant-loop-i : goal.invariant-loop-i
invariant-loop-i g l =
    (l.table.shape.buckets ≡ 8)
    × (l.table.shape.block ≡ 24)
    × All (λ p. p < l.i + 3) l.table.positions
