use Rattle.tk_frames.proofs.Marks.{before-none, before-marked, before-settled, before-unmarked}
use Rattle.tk_frames.proofs.laws.before_a_mark.Goals as goal

pub returns-clause-none : goal.returns-clause-none
returns-clause-none c = before-none

pub returns-clause-marked : goal.returns-clause-marked
returns-clause-marked c = before-marked

pub returns-clause-settled : goal.returns-clause-settled
returns-clause-settled c = before-settled

pub returns-clause-unmarked : goal.returns-clause-unmarked
returns-clause-unmarked c = before-unmarked
