use Rattle.tk_privacy.proofs.CountLaws.{as_many_tapes, each_as_often, as_many_cells}
use Rattle.tk_privacy.proofs.laws.as_many_tapes.Goals as goal

pub returns-clause-tapes : goal.returns-clause-tapes
returns-clause-tapes c = as_many_tapes

pub returns-clause-each : goal.returns-clause-each
returns-clause-each c = each_as_often

pub returns-clause-cells : goal.returns-clause-cells
returns-clause-cells c = as_many_cells
