use Rattle.tk_bits.proofs.Seeded.{last_is_computed}
use Rattle.tk_bits.proofs.laws.last_is_computed.Goals as goal

pub returns : goal.returns
returns c = last_is_computed
