use Rattle.tk_report.proofs.MarkedLaws.{entries-agree, turn_entries-agree}
use Rattle.tk_report.proofs.AgreementLaws.{marked-so_far, readers-agree, reads-agree, frames-agree, views-agree}
use Rattle.tk_report.proofs.AgreementLaws.{alike-after_turn, alike-where_open, alike-where_old}
use Rattle.tk_report.proofs.laws.agreement.Goals as goal

pub returns-clause-entries : goal.returns-clause-entries
returns-clause-entries c = entries-agree

pub returns-clause-turn_entries : goal.returns-clause-turn_entries
returns-clause-turn_entries c = turn_entries-agree

pub returns-clause-marked : goal.returns-clause-marked
returns-clause-marked c = marked-so_far

pub returns-clause-readers : goal.returns-clause-readers
returns-clause-readers c = readers-agree

pub returns-clause-reads : goal.returns-clause-reads
returns-clause-reads c = reads-agree

pub returns-clause-frames : goal.returns-clause-frames
returns-clause-frames c = frames-agree

pub returns-clause-views : goal.returns-clause-views
returns-clause-views c = views-agree

pub returns-clause-after_turn : goal.returns-clause-after_turn
returns-clause-after_turn c = alike-after_turn

pub returns-clause-where_open : goal.returns-clause-where_open
returns-clause-where_open c = alike-where_open

pub returns-clause-where_old : goal.returns-clause-where_old
returns-clause-where_old c = alike-where_old
