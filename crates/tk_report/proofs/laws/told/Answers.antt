use Rattle.tk_report.proofs.ToldByLaws.{orders-and_epochs-tell, entries-tell-orders, turns-read_off}
use Rattle.tk_report.proofs.laws.told.Goals as goal

pub returns-clause-orders_and_epochs : goal.returns-clause-orders_and_epochs
returns-clause-orders_and_epochs c = orders-and_epochs-tell

pub returns-clause-entries : goal.returns-clause-entries
returns-clause-entries c = entries-tell-orders

pub returns-clause-read_off : goal.returns-clause-read_off
returns-clause-read_off c = turns-read_off
