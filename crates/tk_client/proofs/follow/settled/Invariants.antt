-- So many absent numbers so far.
use Rattle.std.proofs.Common.{◌≡◌, replicate}
use Rattle.tk_client.specs.declared.got.Got.TheVariants.{Absent}
use Rattle.tk_client.proofs.follow.settled.Given as goal

abbrev pub invariant-loop : goal.invariant-loop
invariant-loop l = l.got.items ≡ replicate l.counter Absent
