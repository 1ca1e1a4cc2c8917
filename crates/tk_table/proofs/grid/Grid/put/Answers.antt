use Rattle.std.proofs.Common.{arith, sym, ◌∙◌}
use Rattle.tk_table.proofs.Seen.{length-others}
use Rattle.tk_table.proofs.Grids.{ready_grid, steps_grid, moved_grid, moved_slots, coming_with}
use Rattle.tk_table.proofs.grid.Grid.put.Goals as goal

pub find-requires-clause-first : goal.find-requires-clause-first
find-requires-clause-first c =
    let pair = rw (← c.self.view_is) at c.requires.pair in
    let long = length-others 0 c.self.inside.buckets.contents.table in
    let wide = c.self.invariant.wide in
    rw (← c.self.view_is) (omega (arith, pair.0, long, wide))

pub find-requires-clause-second : goal.find-requires-clause-second
find-requires-clause-second c =
    let pair = rw (← c.self.view_is) at c.requires.pair in
    let long = length-others 0 c.self.inside.buckets.contents.table in
    let wide = c.self.invariant.wide in
    rw (← c.self.view_is) (omega (arith, pair.1, long, wide))

pub find-requires-clause-size : goal.find-requires-clause-size
find-requires-clause-size c =
    let size = rw (← c.self.view_is) at c.requires.size in
    rw (← c.self.view_is)
    (size ∙ sym (length-others 0 c.self.inside.buckets.contents.table ∙ c.self.invariant.wide))

pub store-requires-clause-steps : goal.store-requires-clause-steps
store-requires-clause-steps c =
    let pair = rw (← c.self.view_is) at c.requires.pair in
    let answer = rw (← c.self.view_is) at c.in-Chain.ensures.answer in
    steps_grid c.self.inside.shape c.self.inside.buckets.contents _ c.self.invariant
    (ready_grid c.self.inside.shape c.self.inside.buckets.contents c.args.pair c.in-Chain.count _
    c.self.invariant pair answer).steps_are

pub store-requires-clause-free : goal.store-requires-clause-free
store-requires-clause-free c =
    let pair = rw (← c.self.view_is) at c.requires.pair in
    let answer = rw (← c.self.view_is) at c.in-Chain.ensures.answer in
    (ready_grid c.self.inside.shape c.self.inside.buckets.contents c.args.pair c.in-Chain.count _
    c.self.invariant pair answer).free

pub invariant_of-self : goal.invariant_of-self
invariant_of-self c =
    let pair = rw (← c.self.view_is) at c.requires.pair in
    let answer = rw (← c.self.view_is) at c.in-Chain.ensures.answer in
    moved_grid c.self.inside.shape c.self.inside.buckets.contents _ c.args.pair _ _ c.self.invariant
    (ready_grid c.self.inside.shape c.self.inside.buckets.contents c.args.pair c.in-Chain.count _
    c.self.invariant pair answer)
    (coming_with c.self.inside.shape c.args.position c.args.pair c.args.block.now
    c.requires.position) c.store.ensures

pub returns-in-Chain-clause-slots : goal.returns-in-Chain-clause-slots
returns-in-Chain-clause-slots c =
    let pair = rw (← c.self.view_is) at c.requires.pair in
    let answer = rw (← c.self.view_is) at c.in-Chain.ensures.answer in
    rw (← c.self.view_is)
    (moved_slots c.self.inside.shape c.self.inside.buckets.contents c.store.new.buckets.contents c.args.pair _ _
    (ready_grid c.self.inside.shape c.self.inside.buckets.contents c.args.pair c.in-Chain.count _
    c.self.invariant pair answer)
    (coming_with c.self.inside.shape c.args.position c.args.pair c.args.block.now
    c.requires.position) c.store.ensures)
