-- Refused replies change nothing.
use Rattle.std.proofs.Common.{◌≡◌}
use Rattle.tk_client_tests.proofs.client_tests.refuse_all.Given as goal

abbrev pub invariant-loop-case : goal.invariant-loop-case
invariant-loop-case l = l.client ≡ l.initial.client
