use Rattle.tk_run.proofs.RangedLaws.{ranged-from-own}
use Rattle.tk_run.proofs.laws.servers_ranged.Goals as goal

pub returns : goal.returns
returns c = ranged-from-own
