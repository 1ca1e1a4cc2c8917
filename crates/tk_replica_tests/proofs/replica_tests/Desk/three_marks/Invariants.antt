-- Each seat has its number.
use Rattle.std.proofs.Common.{◌≡◌, Some}
use Rattle.tk_replica_tests.proofs.replica_tests.Desk.three_marks.Given as goal

abbrev pub invariant-loop : goal.invariant-loop
invariant-loop g l = (l.client.number ≡ Some 1) × (l.marks.number ≡ Some 0)
