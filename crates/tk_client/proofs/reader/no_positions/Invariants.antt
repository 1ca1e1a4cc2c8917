-- As many as were counted.
use Rattle.std.proofs.Common.{◌≡◌, length}
use Rattle.tk_client.proofs.reader.no_positions.Given as goal

abbrev pub invariant-loop : goal.invariant-loop
invariant-loop l = length l.positions.items ≡ l.counter
