use Rattle.tk_hostile.proofs.ActingLaws.{new_is_acting, acts_as_client}
use Rattle.tk_hostile.proofs.laws.acts_as_client.Goals as goal

pub returns-clause-new : goal.returns-clause-new
returns-clause-new c = new_is_acting

pub returns-clause-next : goal.returns-clause-next
returns-clause-next c = acts_as_client
