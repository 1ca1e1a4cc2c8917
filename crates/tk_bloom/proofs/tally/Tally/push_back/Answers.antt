use Rattle.std.proofs.Common.{rules}
use Rattle.tk_bloom.proofs.Counting.{one_more_countable, counts_up}
use Rattle.tk_bloom.proofs.tally.Tally.push_back.Goals as goal

pub overflow_add-index_mut : goal.overflow_add-index_mut
overflow_add-index_mut c =
    let below = rw (← c.self.view_is) at c.requires.in_range in
    let room = rw (← c.self.view_is) at c.requires.room in
    let countable =
    one_more_countable _ _ _ _ _ below c.index_mut.ensures.value c.self.invariant room in
    search rules

pub invariant_of-self : goal.invariant_of-self
invariant_of-self c =
    let below = rw (← c.self.view_is) at c.requires.in_range in
    rw (c.push_back.ensures.positions, c.push_back.ensures.room)
    (counts_up _ _ _ _ _ below c.index_mut.ensures.value c.self.invariant)
