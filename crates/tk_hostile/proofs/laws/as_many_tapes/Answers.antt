use Rattle.tk_hostile.proofs.CountLaws.{as_many_tapes}
use Rattle.tk_hostile.proofs.laws.as_many_tapes.Goals as goal

pub returns : goal.returns
returns c = as_many_tapes
