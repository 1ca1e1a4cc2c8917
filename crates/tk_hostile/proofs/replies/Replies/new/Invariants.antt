-- As many are empty as were counted.
use Rattle.std.proofs.Common.{◌≡◌, None, replicate}
use Rattle.tk_hostile.proofs.replies.Replies.new.Given as goal

abbrev pub invariant-loop : goal.invariant-loop
invariant-loop l = l.sums.items ≡ replicate l.counter None
