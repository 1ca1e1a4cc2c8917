use Rattle.tk_hostile.proofs.HonestLaws.{wrong-readers, honest-view, honest-logs}
use Rattle.tk_hostile.proofs.laws.honest_replies.Goals as goal

pub returns-clause-readers : goal.returns-clause-readers
returns-clause-readers c = wrong-readers

pub returns-clause-view : goal.returns-clause-view
returns-clause-view c = honest-view

pub returns-clause-logs : goal.returns-clause-logs
returns-clause-logs c = honest-logs
