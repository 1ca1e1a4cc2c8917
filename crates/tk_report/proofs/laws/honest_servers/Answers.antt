use Rattle.tk_report.proofs.ServingLaws.{honest-readers, honest-exchange, honest-report}
use Rattle.tk_report.proofs.laws.honest_servers.Goals as goal

pub returns-clause-readers : goal.returns-clause-readers
returns-clause-readers c = honest-readers

pub returns-clause-exchange : goal.returns-clause-exchange
returns-clause-exchange c = honest-exchange

pub returns-clause-report : goal.returns-clause-report
returns-clause-report c = honest-report
