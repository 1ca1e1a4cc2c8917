-- As many keys are there as the loop has counted.
use Rattle.std.proofs.Common.{◌≡◌, length}
use Rattle.embed.proofs.keys.keyed_draws.Given as goal

abbrev pub invariant-handles : goal.invariant-handles
invariant-handles l = length l.handles.items ≡ l.log

abbrev pub invariant-seeds : goal.invariant-seeds
invariant-seeds l = length l.seeds.items ≡ l.client
