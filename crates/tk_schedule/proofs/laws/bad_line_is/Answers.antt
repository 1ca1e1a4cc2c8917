-- What is due can be carried on to a legal history, and nothing else can.
use Rattle.tk_schedule.proofs.BadLineLaws.{none_bad, first_bad_line}
use Rattle.tk_schedule.proofs.laws.bad_line_is.Goals as goal

pub returns : goal.returns
returns c = record { none = none_bad; first = first_bad_line }
