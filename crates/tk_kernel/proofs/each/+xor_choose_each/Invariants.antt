use Rattle.std.proofs.Common.{length}
use Rattle.tk_kernel.proofs.each.+xor_choose_each.Given as goal

abbrev pub decreases-xor_choose_each : goal.decreases-xor_choose_each
decreases-xor_choose_each l = length l.sums.now
