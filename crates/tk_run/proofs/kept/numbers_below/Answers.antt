-- One number more.
use Rattle.std.proofs.Common.{◌+◌, sym, subst}
use Rattle.tk_run.specs.Ranging.{AreNumbers}
use Rattle.tk_run.proofs.NumbersLaws.{numbers-none, numbers-more}
use Rattle.tk_run.proofs.kept.numbers_below.Goals as goal

pub numbers-init : goal.numbers-init
numbers-init c = numbers-none c.in_ok-numbers.numbers.items c.in_ok-numbers.ensures.items

pub numbers-preserved : goal.numbers-preserved
numbers-preserved c =
    subst (AreNumbers (c.numbers.number + 1)) (sym c.in_ok-push.ensures.items)
    (numbers-more c.numbers.number c.numbers.numbers.items c.numbers.invariant)
