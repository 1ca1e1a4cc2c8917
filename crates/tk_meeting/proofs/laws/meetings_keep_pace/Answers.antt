use Rattle.tk_meeting.proofs.hidden.Pacing.{keep-pace}
use Rattle.tk_meeting.proofs.laws.meetings_keep_pace.Goals as goal

pub returns : goal.returns
returns c = keep-pace
