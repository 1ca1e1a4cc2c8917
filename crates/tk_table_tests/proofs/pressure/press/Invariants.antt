use Rattle.std.proofs.Common.{◌≡◌, ◌<◌, All}
use Rattle.tk_table_tests.proofs.pressure.press.Given as goal

-- the table has its sizes, and the writes so far are below the next position
abbrev pub invariant-loop-position : goal.invariant-loop-position
invariant-loop-position l =
    (l.table.shape.buckets ≡ 8)
    × (l.table.shape.block ≡ 24)
    × All (λ p. p < l.position) l.table.positions
