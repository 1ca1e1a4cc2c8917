use Rattle.tk_hostile.proofs.AttackLaws.{chosen_alike}
use Rattle.tk_hostile.proofs.laws.chosen_alike.Goals as goal

pub returns : goal.returns
returns c = chosen_alike
