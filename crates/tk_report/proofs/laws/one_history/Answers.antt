use Rattle.tk_report.proofs.ShowsLaws.{reports-show}
use Rattle.tk_report.proofs.OneHistoryLaws.{shows-one}
use Rattle.tk_report.proofs.laws.one_history.Goals as goal

pub returns-clause-shows : goal.returns-clause-shows
returns-clause-shows c = reports-show

pub returns-clause-one : goal.returns-clause-one
returns-clause-one c = shows-one
