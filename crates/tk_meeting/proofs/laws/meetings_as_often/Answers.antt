use Rattle.tk_meeting.proofs.courses.Counted.{meetings-as-often}
use Rattle.tk_meeting.proofs.laws.meetings_as_often.Goals as goal

pub returns : goal.returns
returns c = meetings-as-often
