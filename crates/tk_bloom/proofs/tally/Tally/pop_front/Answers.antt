use Rattle.std.proofs.Common.{List, ℕ, subst}
use Rattle.tk_bloom.specs.Counts.{AreCounts}
use Rattle.tk_bloom.proofs.Counting.{some_counted, counts_down}
use Rattle.tk_bloom.proofs.tally.Tally.pop_front.Goals as goal

pub overflow_sub-index_mut : goal.overflow_sub-index_mut
overflow_sub-index_mut c =
    let P : List ℕ → Type 0 =
    λ ps. AreCounts c.self.inside.counts.items ps c.self.inside.queue.room in
    some_counted _ _ _ _ _ c.index_mut.ensures.value
    (subst P c.pop_front-hit.ensures.positions c.self.invariant)

pub invariant_of-self : goal.invariant_of-self
invariant_of-self c =
    let P : List ℕ → Type 0 =
    λ ps. AreCounts c.self.inside.counts.items ps c.self.inside.queue.room in
    rw c.pop_front-hit.ensures.room
    (counts_down _ _ _ _ _ c.index_mut.ensures.value
    (subst P c.pop_front-hit.ensures.positions c.self.invariant))
