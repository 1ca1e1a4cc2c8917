-- Nothing is tried of the logs so far.
use Rattle.std.proofs.Common.{◌≡◌}
use Rattle.tk_client.proofs.ReaderLaws.{renewed}
use Rattle.tk_client.proofs.record.forget_tried.Given as goal

abbrev pub invariant-loop-follow : goal.invariant-loop-follow
invariant-loop-follow l = l.follows ≡ renewed l.follow-index l.fn.follows
