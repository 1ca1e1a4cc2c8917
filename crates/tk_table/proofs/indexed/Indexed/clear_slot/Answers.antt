use Rattle.tk_bucket.specs.Table.{empty_slot}
use Rattle.tk_table.proofs.Rows.{slot_within, both_set}
use Rattle.tk_table.proofs.indexed.Indexed.clear_slot.Goals as goal

pub set-requires-clause-bucket : goal.set-requires-clause-bucket
set-requires-clause-bucket c =
    (slot_within c.self.inside.buckets.contents c.self.inside.index c.args.bucket c.args.slot
    c.self.invariant c.sized.ensures.sizes (rw (← c.self.view_is) at c.requires.bucket_in) (rw (← c.self.view_is) at c.requires.slot_in)).0

pub set-requires-clause-slot : goal.set-requires-clause-slot
set-requires-clause-slot c =
    (slot_within c.self.inside.buckets.contents c.self.inside.index c.args.bucket c.args.slot
    c.self.invariant c.sized.ensures.sizes (rw (← c.self.view_is) at c.requires.bucket_in) (rw (← c.self.view_is) at c.requires.slot_in)).1

pub invariant_of-self : goal.invariant_of-self
invariant_of-self c =
    both_set c.self.inside.buckets.contents c.clear_slot.new.self.contents c.self.inside.index
    c.set.new.self c.args.bucket c.args.slot
    (empty_slot c.self.inside.buckets.contents.block) c.self.invariant c.set.ensures
    c.clear_slot.ensures.contents
