-- The numbers so far.
use Rattle.tk_run.specs.Ranging.{AreNumbers}
use Rattle.tk_run.proofs.kept.numbers_below.Given as goal

abbrev pub invariant-numbers : goal.invariant-numbers
invariant-numbers l = AreNumbers l.number l.numbers.items
