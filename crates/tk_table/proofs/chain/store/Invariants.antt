use Rattle.tk_table.proofs.Moving.{IsMoving}
use Rattle.tk_table.proofs.chain.store.Given as goal

abbrev pub invariant-loop-i : goal.invariant-loop-i
invariant-loop-i l =
    IsMoving l.initial.buckets.contents l.scratch.steps l.buckets.contents
    (l.free.bucket, l.free.slot) l.i
