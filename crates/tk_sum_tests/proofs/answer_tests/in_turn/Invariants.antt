-- Each vector so far has nine bytes.
use Rattle.std.proofs.Common.{◌≡◌, length}
use Rattle.std.specs.List.{All}
use Rattle.tk_sum_tests.proofs.answer_tests.in_turn.Given as goal

abbrev pub invariant-loop-i : goal.invariant-loop-i
invariant-loop-i l = All (λ v. length v ≡ 9) l.vectors.items
