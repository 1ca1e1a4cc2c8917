-- The window stays of 64 positions, one a number.
use Rattle.std.proofs.Common.{◌≡◌}
use Rattle.tk_client_tests.proofs.look_tests.first_marked.Given as goal

abbrev pub invariant-loop-hit : goal.invariant-loop-hit
invariant-loop-hit l = record { bits : l.window.bits ≡ 64; hits : l.window.hits ≡ 1 }
