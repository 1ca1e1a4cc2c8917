use Rattle.tk_hostile.proofs.AttackLaws.{same_seen}
use Rattle.tk_hostile.proofs.laws.same_seen.Goals as goal

pub returns : goal.returns
returns c = same_seen
