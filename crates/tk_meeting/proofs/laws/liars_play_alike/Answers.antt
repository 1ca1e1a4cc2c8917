use Rattle.tk_meeting.proofs.lying.Plays.{liars-play-alike}
use Rattle.tk_meeting.proofs.laws.liars_play_alike.Goals as goal

pub returns : goal.returns
returns c = liars-play-alike
