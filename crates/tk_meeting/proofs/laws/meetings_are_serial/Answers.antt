use Rattle.tk_meeting.proofs.courses.Together.{meetings-are-serial}
use Rattle.tk_meeting.proofs.laws.meetings_are_serial.Goals as goal

pub returns : goal.returns
returns c = meetings-are-serial
