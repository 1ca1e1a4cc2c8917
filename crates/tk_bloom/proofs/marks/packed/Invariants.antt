-- Whatever numbers have the marks that are left, behind those so far they have all.
use Rattle.std.proofs.Common.{ℕ, List, length, map, nat_lt, ◌++◌}
use Rattle.tk_bloom.specs.Packing.{ArePacked}
use Rattle.tk_bloom.proofs.marks.packed.Given as goal

abbrev pub invariant-rest : goal.invariant-rest
invariant-rest l =
    (ns : List ℕ) → ArePacked ns (map (λ n. nat_lt 0 n) l.rest)
    → ArePacked (l.numbers.items ++ ns) (map (λ n. nat_lt 0 n) l.counts)

abbrev pub decreases-rest : goal.decreases-rest
decreases-rest l = length l.rest
