-- The End stands after lines of which none is one.
use Rattle.tk_schedule.proofs.Offers.{end_behind_told}
use Rattle.tk_schedule_tests.proofs.told_tests.lines_of.Goals as goal

pub from_vec-requires : goal.from_vec-requires
from_vec-requires c =
    rw c.in_ok-push-2.ensures.items
    (end_behind_told c.loop-one.lines.items c.loop-one.number c.loop-one.invariant)
