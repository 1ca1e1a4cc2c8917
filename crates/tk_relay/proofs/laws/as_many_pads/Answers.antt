use Rattle.tk_relay.proofs.CountLaws.{as_many_pads}
use Rattle.tk_relay.proofs.laws.as_many_pads.Goals as goal

pub returns : goal.returns
returns c = as_many_pads
