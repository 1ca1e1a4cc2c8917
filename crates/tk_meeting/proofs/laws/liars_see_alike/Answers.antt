use Rattle.tk_meeting.proofs.lying.Tapes.{liars-see-alike}
use Rattle.tk_meeting.proofs.laws.liars_see_alike.Goals as goal

pub returns : goal.returns
returns c = liars-see-alike
