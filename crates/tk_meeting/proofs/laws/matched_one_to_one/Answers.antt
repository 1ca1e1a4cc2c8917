use Rattle.tk_meeting.proofs.lying.Matches.{matched-one_to_one}
use Rattle.tk_meeting.proofs.laws.matched_one_to_one.Goals as goal

pub returns : goal.returns
returns c = matched-one_to_one
