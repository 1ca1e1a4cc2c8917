use Rattle.tk_meeting.proofs.lying.Said.{lied-have-scripts}
use Rattle.tk_meeting.proofs.laws.lied_have_scripts.Goals as goal

pub returns : goal.returns
returns c = lied-have-scripts
