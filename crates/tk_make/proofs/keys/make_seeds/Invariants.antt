-- The seeds of the clients so far are made.
use Rattle.std.proofs.Common.{◌≡◌, map}
use Rattle.std.specs.List.{range_with_len}
use Rattle.tk_make.specs.Making.{made_seed}
use Rattle.tk_make.proofs.keys.make_seeds.Given as goal

abbrev pub invariant-loop-client : goal.invariant-loop-client
invariant-loop-client l = l.seeds.items ≡ map (made_seed l.root) (range_with_len 0 l.client)
