use Rattle.tk_report.proofs.LeavingLaws.{ends-leave, ends-text}
use Rattle.tk_report.proofs.OutcomeLaws.{outcomes-report}
use Rattle.tk_report.proofs.SaidLaws.{ends-count_said, ends-unsent}
use Rattle.tk_report.proofs.laws.ends.Goals as goal

pub returns-clause-leave : goal.returns-clause-leave
returns-clause-leave c = ends-leave

pub returns-clause-report : goal.returns-clause-report
returns-clause-report c = ends-text

pub returns-clause-outcome : goal.returns-clause-outcome
returns-clause-outcome c = outcomes-report

pub returns-clause-said : goal.returns-clause-said
returns-clause-said c = ends-count_said

pub returns-clause-unsent : goal.returns-clause-unsent
returns-clause-unsent c = ends-unsent
