use Rattle.tk_report.proofs.ClearLaws.{clear-is_tested}
use Rattle.tk_report.proofs.WrittenLaws.{each-is_written}
use Rattle.tk_report.proofs.laws.clear.Goals as goal

pub returns-clause-tested : goal.returns-clause-tested
returns-clause-tested c = clear-is_tested

pub returns-clause-written : goal.returns-clause-written
returns-clause-written c = each-is_written
