use Rattle.std.proofs.Common.{◌-◌}
use Rattle.tk_kernel.proofs.Whole.{IsBegun}
use Rattle.tk_kernel.proofs.each.add_by_tables.Given as goal

abbrev pub invariant-loop-done : goal.invariant-loop-done
invariant-loop-done l = IsBegun l.size l.first l.blocks l.vectors l.fn.sums l.done l.sums

abbrev pub decreases-loop-done : goal.decreases-loop-done
decreases-loop-done l = l.count - l.done
