-- As many desks are empty as are counted.
use Rattle.std.proofs.Common.{◌≡◌, replicate}
use Rattle.tk_serve.specs.Desks.{empty_desk}
use Rattle.tk_serve.proofs.server.empty_desks.Given as goal

abbrev pub invariant-desks : goal.invariant-desks
invariant-desks l = l.desks.items ≡ replicate l.counter empty_desk
