use Rattle.tk_meeting.proofs.gotten.Delivering.{serial-deliver}
use Rattle.tk_meeting.proofs.courses.Together.{meetings-are-serial}
use Rattle.tk_meeting.proofs.laws.meetings_deliver.Goals as goal

pub returns : goal.returns
returns c = serial-deliver meetings-are-serial
