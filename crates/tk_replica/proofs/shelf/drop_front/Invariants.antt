-- As many are gone as were counted.
use Rattle.std.proofs.Common.{◌≡◌, drop}
use Rattle.tk_replica.proofs.shelf.drop_front.Given as goal

abbrev pub invariant-loop : goal.invariant-loop
invariant-loop l = l.epochs.items ≡ drop l.counter l.fn.epochs.items
