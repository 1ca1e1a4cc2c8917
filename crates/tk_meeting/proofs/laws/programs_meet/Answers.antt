use Rattle.tk_meeting.proofs.programs.Meeting.{programs-meet}
use Rattle.tk_meeting.proofs.laws.programs_meet.Goals as goal

pub returns : goal.returns
returns c = programs-meet
