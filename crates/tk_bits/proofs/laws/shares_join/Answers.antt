use Rattle.tk_bits.proofs.Seeded.{shares_join}
use Rattle.tk_bits.proofs.laws.shares_join.Goals as goal

pub returns : goal.returns
returns c = shares_join
