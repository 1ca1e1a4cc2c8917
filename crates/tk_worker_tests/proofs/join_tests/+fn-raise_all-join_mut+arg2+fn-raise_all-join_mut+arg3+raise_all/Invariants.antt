-- Each half is shorter than the whole.
use Rattle.std.proofs.Common.{length}
use Rattle.tk_worker_tests.proofs.join_tests.+fn-raise_all-join_mut+arg2+fn-raise_all-join_mut+arg3+raise_all.Given as goal

abbrev pub decreases-join_mut+arg2 : goal.decreases-join_mut+arg2
decreases-join_mut+arg2 g l = length l.front.now

abbrev pub decreases-join_mut+arg3 : goal.decreases-join_mut+arg3
decreases-join_mut+arg3 g l = length l.back.now

abbrev pub decreases-raise_all : goal.decreases-raise_all
decreases-raise_all g l = length l.all.now
