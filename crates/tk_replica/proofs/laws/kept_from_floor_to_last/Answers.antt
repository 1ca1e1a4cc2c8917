-- By the lemma.
use Rattle.tk_replica.proofs.KeptNumbers.{kept-spanning}
use Rattle.tk_replica.proofs.laws.kept_from_floor_to_last.Goals as goal

pub returns : goal.returns
returns c = kept-spanning
