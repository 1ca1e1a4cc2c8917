use Rattle.tk_report.proofs.MarkedLaws.{before-standing, phases-marked}
use Rattle.tk_report.proofs.AgreementLaws.{epoch-made, fronts-agree}
use Rattle.tk_report.proofs.laws.marks.Goals as goal

pub returns-clause-standing : goal.returns-clause-standing
returns-clause-standing c = before-standing

pub returns-clause-phases : goal.returns-clause-phases
returns-clause-phases c = phases-marked

pub returns-clause-epochs : goal.returns-clause-epochs
returns-clause-epochs c = epoch-made

pub returns-clause-fronts : goal.returns-clause-fronts
returns-clause-fronts c = fronts-agree
