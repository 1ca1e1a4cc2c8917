use Rattle.tk_meeting.proofs.scripts.Scripts.{meetings-have-scripts}
use Rattle.tk_meeting.proofs.laws.meetings_have_scripts.Goals as goal

pub returns : goal.returns
returns c = meetings-have-scripts
