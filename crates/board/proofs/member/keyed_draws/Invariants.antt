-- As many keys are there as the loop has counted.
use Rattle.std.proofs.Common.{◌≡◌, length}
use Rattle.board.proofs.member.keyed_draws.Given as goal

abbrev pub invariant-loop-log : goal.invariant-loop-log
invariant-loop-log l = length l.handles.items ≡ l.log

abbrev pub invariant-loop-client : goal.invariant-loop-client
invariant-loop-client l = length l.seeds.items ≡ l.client
