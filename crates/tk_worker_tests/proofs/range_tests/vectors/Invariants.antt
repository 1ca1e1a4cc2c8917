-- Each vector so far has three bytes.
use Rattle.std.proofs.Common.{◌≡◌, length}
use Rattle.std.specs.List.{All}
use Rattle.tk_worker_tests.proofs.range_tests.vectors.Given as goal

abbrev pub invariant-loop-i : goal.invariant-loop-i
invariant-loop-i l = All (λ v. length v ≡ 3) l.vectors.items
