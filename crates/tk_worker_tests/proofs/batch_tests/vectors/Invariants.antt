-- Each vector so far has one byte.
use Rattle.std.proofs.Common.{◌≡◌, length}
use Rattle.std.specs.List.{All}
use Rattle.tk_worker_tests.proofs.batch_tests.vectors.Given as goal

abbrev pub invariant-loop-i : goal.invariant-loop-i
invariant-loop-i l = All (λ v. length v ≡ 1) l.vectors.items
