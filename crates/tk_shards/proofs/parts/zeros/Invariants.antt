-- The sums so far are of no blocks.
use Rattle.std.proofs.Common.{◌≡◌, length, replicate}
use Rattle.std.specs.List.{All}
use Rattle.tk_shards.proofs.parts.zeros.Given as goal

abbrev pub invariant-loop : goal.invariant-loop
invariant-loop l = (length l.sums.items ≡ l.counter) × All (λ sum. sum.items ≡ replicate l.width 0) l.sums.items
