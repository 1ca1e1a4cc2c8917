use Rattle.tk_hostile.proofs.AttackLaws.{one_to_one_attacked}
use Rattle.tk_hostile.proofs.laws.one_to_one_attacked.Goals as goal

pub returns : goal.returns
returns c = one_to_one_attacked
