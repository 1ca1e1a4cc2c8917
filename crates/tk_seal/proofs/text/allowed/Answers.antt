-- The longest front of a text that may not be sent is shorter, and is its only one.
use Rattle.tk_seal.proofs.Fronts.{front_is}
use Rattle.tk_seal.proofs.text.allowed.Goals as goal

pub returns-clause-front : goal.returns-clause-front
returns-clause-front c = front_is _ _ c.allowed_len.ensures
