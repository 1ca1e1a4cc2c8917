use Rattle.tk_meeting.proofs.restarts.Journals.{put-again, go-on}
use Rattle.tk_meeting.proofs.restarts.Tellings.{tell-again}
use Rattle.tk_meeting.proofs.restarts.Seats.{stand-again}
use Rattle.tk_meeting.proofs.laws.restarts_change_nothing.Goals as goal

pub returns : goal.returns
returns c = record { put_again = put-again; go_on = go-on; tell_again = tell-again; stand_again = stand-again }
