use Rattle.tk_report.proofs.LiftedLaws.{lifted-reports}
use Rattle.tk_report.proofs.laws.lifted.Goals as goal

pub returns : goal.returns
returns c = lifted-reports
