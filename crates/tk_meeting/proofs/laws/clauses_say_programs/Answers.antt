use Rattle.tk_meeting.proofs.programs.Clauses.{members-act}
use Rattle.tk_meeting.proofs.programs.Served.{servers-act}
use Rattle.tk_meeting.proofs.laws.clauses_say_programs.Goals as goal

pub returns : goal.returns
returns c = record { members = members-act; servers = servers-act }
