use Rattle.std.proofs.Common.{◌≡◌, ◌+◌, Some}
use Rattle.tk_order_tests.proofs.order_tests.Desk.all_turns.Given as goal

abbrev pub invariant-loop-turn : goal.invariant-loop-turn
invariant-loop-turn g l = l.seat.number ≡ Some (l.client + 1)
