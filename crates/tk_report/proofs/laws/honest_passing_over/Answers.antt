use Rattle.tk_report.proofs.PassingOverLaws.{honest-passing_over}
use Rattle.tk_report.proofs.laws.honest_passing_over.Goals as goal

pub returns : goal.returns
returns c = honest-passing_over
