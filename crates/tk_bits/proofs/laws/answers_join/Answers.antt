use Rattle.tk_bits.proofs.Seeded.{answers_join}
use Rattle.tk_bits.proofs.laws.answers_join.Goals as goal

pub returns : goal.returns
returns c = answers_join
