use Rattle.tk_meeting.proofs.own.Keys.{own-keys-serve}
use Rattle.tk_meeting.proofs.laws.own_keys_serve.Goals as goal

pub returns : goal.returns
returns c = own-keys-serve
