-- The slots so far are sound, and it is noted which positions they have.
use Rattle.tk_checkpoint.specs.Reading.{positions_from}
use Rattle.tk_checkpoint.proofs.SlotChecks.{AreChecked}
use Rattle.tk_checkpoint.proofs.slots.check_each.Given as goal

abbrev pub invariant-loop-n : goal.invariant-loop-n
invariant-loop-n l = AreChecked l.shape (positions_from l.shape.hits l.count l.window) l.table l.n l.found l.rest
