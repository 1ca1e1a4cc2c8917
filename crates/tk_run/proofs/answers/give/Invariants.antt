-- The replies that are left are the first ones, and the others are given.
use Rattle.std.proofs.Common.{length}
use Rattle.tk_run.proofs.BatchLaws.{GivenFrom}
use Rattle.tk_run.proofs.answers.give.Given as goal

abbrev pub invariant-giving : goal.invariant-giving
invariant-giving l = GivenFrom l.replies.items l.fn.readings l.fn.replies.items l.readings

abbrev pub decreases-giving : goal.decreases-giving
decreases-giving l = length l.replies.items
