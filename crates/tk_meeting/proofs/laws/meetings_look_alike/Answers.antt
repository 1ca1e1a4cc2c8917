use Rattle.tk_meeting.proofs.hidden.LookAlike.{meetings-look-alike}
use Rattle.tk_meeting.proofs.laws.meetings_look_alike.Goals as goal

pub returns : goal.returns
returns c = meetings-look-alike
