use Rattle.tk_report.proofs.DeliveredLaws.{delivers-as_written, sent-in_range}
use Rattle.tk_report.proofs.laws.delivered.Goals as goal

pub returns-clause-delivers : goal.returns-clause-delivers
returns-clause-delivers c = delivers-as_written

pub returns-clause-in_range : goal.returns-clause-in_range
returns-clause-in_range c = sent-in_range
