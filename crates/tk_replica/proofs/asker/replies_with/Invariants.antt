-- The frames so far, and those for who is left.
use Rattle.std.proofs.Common.{◌≡◌, ◌++◌, length}
use Rattle.std.specs.Vec.Iter.{into_iter_items}
use Rattle.tk_replica.specs.Replies.{frames_with}
use Rattle.tk_replica.proofs.asker.replies_with.Given as goal

abbrev pub invariant-askers : goal.invariant-askers
invariant-askers l =
    l.replies.items ++ frames_with l.left (into_iter_items l.rest)
    ≡ frames_with l.askers (into_iter_items l.initial.rest)

abbrev pub decreases-askers : goal.decreases-askers
decreases-askers l = length l.left
