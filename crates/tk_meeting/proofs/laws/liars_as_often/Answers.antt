use Rattle.tk_meeting.proofs.lying.Often.{liars-as-often}
use Rattle.tk_meeting.proofs.laws.liars_as_often.Goals as goal

pub returns : goal.returns
returns c = liars-as-often
