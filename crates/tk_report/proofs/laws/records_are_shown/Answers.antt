use Rattle.tk_report.proofs.RetainedLaws.{records-shown}
use Rattle.tk_report.proofs.laws.records_are_shown.Goals as goal

pub returns : goal.returns
returns c = records-shown
