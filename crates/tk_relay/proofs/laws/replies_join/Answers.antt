use Rattle.tk_relay.proofs.Joins.{replies_join, honest_replies_join}
use Rattle.tk_relay.proofs.laws.replies_join.Goals as goal

pub returns-clause-blocks : goal.returns-clause-blocks
returns-clause-blocks c = replies_join

pub returns-clause-honest : goal.returns-clause-honest
returns-clause-honest c = honest_replies_join
