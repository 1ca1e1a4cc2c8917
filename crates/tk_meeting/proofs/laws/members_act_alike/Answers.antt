use Rattle.tk_meeting.proofs.shown.Sequences.{act-alike}
use Rattle.tk_meeting.proofs.laws.members_act_alike.Goals as goal

pub returns : goal.returns
returns c = act-alike
