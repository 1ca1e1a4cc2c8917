-- By the lemma.
use Rattle.tk_core.proofs.Coming.{events-may_come}
use Rattle.tk_core.proofs.laws.events_may_come.Goals as goal

pub returns : goal.returns
returns c = events-may_come
