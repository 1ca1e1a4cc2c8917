-- The frames that are left are the first ones, and the others are dealt.
use Rattle.std.proofs.Common.{length}
use Rattle.tk_run.proofs.RowsLaws.{DealtFrom}
use Rattle.tk_run.proofs.frames.deal.Given as goal

abbrev pub invariant-dealing : goal.invariant-dealing
invariant-dealing l = DealtFrom l.frames.items l.fn.rows l.fn.frames.items l.rows

abbrev pub decreases-dealing : goal.decreases-dealing
decreases-dealing l = length l.frames.items
