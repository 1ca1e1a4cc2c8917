-- The pairs of the slots so far are kept.
use Rattle.tk_table.proofs.Learning.{IsLearned}
use Rattle.tk_table.proofs.learn.pairs_of.Given as goal

abbrev pub invariant-loop-read : goal.invariant-loop-read
invariant-loop-read l = IsLearned l.shape l.positions l.bytes l._read l.pairs.items l.rest
