-- The lines say each turn.
use Rattle.tk_schedule.proofs.BadLineLaws.{tells_one, ends_where_told, tells_serial}
use Rattle.tk_schedule.proofs.DueLaws.{end_behind_told}
use Rattle.tk_schedule.proofs.laws.lines_tell.Goals as goal

pub returns : goal.returns
returns c = record {
  one = tells_one;
  ends = ends_where_told;
  end = end_behind_told;
  serial = tells_serial;
}
