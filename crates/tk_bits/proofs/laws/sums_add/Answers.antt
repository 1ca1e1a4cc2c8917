use Rattle.tk_bits.proofs.Sums.{sums_add}
use Rattle.tk_bits.proofs.laws.sums_add.Goals as goal

pub returns : goal.returns
returns c = sums_add
