use Rattle.std.proofs.Common.{ap, ◌∙◌}
use Rattle.tk_table.specs.Rows.{with_other}
use Rattle.tk_table.proofs.Rows.{slot_within, with_other-within, both_moved}
use Rattle.tk_table.proofs.indexed.Indexed.move_slot.Goals as goal

pub set-requires-clause-bucket : goal.set-requires-clause-bucket
set-requires-clause-bucket c =
    (slot_within c.self.inside.buckets.contents c.self.inside.index c.args.to.bucket c.args.to.slot
    c.self.invariant c.sized.ensures.sizes (rw (← c.self.view_is) at c.requires.to_in).0 (rw (← c.self.view_is) at c.requires.to_in).1).0

pub set-requires-clause-slot : goal.set-requires-clause-slot
set-requires-clause-slot c =
    (slot_within c.self.inside.buckets.contents c.self.inside.index c.args.to.bucket c.args.to.slot
    c.self.invariant c.sized.ensures.sizes (rw (← c.self.view_is) at c.requires.to_in).0 (rw (← c.self.view_is) at c.requires.to_in).1).1

pub set-requires-2-clause-bucket : goal.set-requires-2-clause-bucket
set-requires-2-clause-bucket c =
    let from = rw (← c.self.view_is) at c.requires.from_in in
    (with_other-within c.self.inside.index c.set.new.self (c.args.to.bucket, c.args.to.slot)
    c.seen_in-other.result c.args.from.bucket c.args.from.slot c.set.ensures
    (slot_within c.self.inside.buckets.contents c.self.inside.index c.args.from.bucket
    c.args.from.slot c.self.invariant c.sized.ensures.sizes from.0 from.1)).0

pub set-requires-2-clause-slot : goal.set-requires-2-clause-slot
set-requires-2-clause-slot c =
    let from = rw (← c.self.view_is) at c.requires.from_in in
    (with_other-within c.self.inside.index c.set.new.self (c.args.to.bucket, c.args.to.slot)
    c.seen_in-other.result c.args.from.bucket c.args.from.slot c.set.ensures
    (slot_within c.self.inside.buckets.contents c.self.inside.index c.args.from.bucket
    c.args.from.slot c.self.invariant c.sized.ensures.sizes from.0 from.1)).1

pub invariant_of-self : goal.invariant_of-self
invariant_of-self c =
    let x = c.self.inside in
    both_moved x.buckets.contents c.move_slot.new.self.contents x.index c.set.new.self
    c.set-2.new.self (c.args.from.bucket, c.args.from.slot) (c.args.to.bucket, c.args.to.slot)
    c.self.invariant
    (c.set.ensures
    ∙ ap (with_other x.index (c.args.to.bucket, c.args.to.slot))
    c.seen_in-other.ensures)
    c.set-2.ensures c.move_slot.ensures.contents
