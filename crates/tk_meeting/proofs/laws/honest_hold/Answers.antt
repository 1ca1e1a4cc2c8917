use Rattle.tk_meeting.proofs.hidden.Outlines.{blocks-sized}
use Rattle.tk_meeting.proofs.laws.honest_hold.Goals as goal

pub returns : goal.returns
returns c S b server served e = blocks-sized S b e served
