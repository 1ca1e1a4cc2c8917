use Rattle.tk_choice.proofs.Remainders.{power_above_zero}
use Rattle.tk_choice.proofs.hits.Goals as goal

pub remainders-requires-clause-some : goal.remainders-requires-clause-some
remainders-requires-clause-some c = power_above_zero c.args.bits c.requires.power
