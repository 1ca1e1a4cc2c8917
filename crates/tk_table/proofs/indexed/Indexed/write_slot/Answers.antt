use Rattle.std.proofs.Common.{ap, ◌∙◌}
use Rattle.std.specs.Prelude.{Option}
use Rattle.tk_table.specs.Rows.{with_other}
use Rattle.tk_table.specs.Stands.{slot_with}
use Rattle.tk_table.proofs.Rows.{slot_within, both_set, other_written}
use Rattle.tk_table.proofs.indexed.Indexed.write_slot.Goals as goal

pub set-requires-clause-bucket : goal.set-requires-clause-bucket
set-requires-clause-bucket c =
    (slot_within c.self.inside.buckets.contents c.self.inside.index c.args.bucket c.args.slot
    c.self.invariant c.sized.ensures.sizes (rw (← c.self.view_is) at c.requires.bucket_in) (rw (← c.self.view_is) at c.requires.slot_in)).0

pub set-requires-clause-slot : goal.set-requires-clause-slot
set-requires-clause-slot c =
    (slot_within c.self.inside.buckets.contents c.self.inside.index c.args.bucket c.args.slot
    c.self.invariant c.sized.ensures.sizes (rw (← c.self.view_is) at c.requires.bucket_in) (rw (← c.self.view_is) at c.requires.slot_in)).1

pub invariant_of-self : goal.invariant_of-self
invariant_of-self c =
    let a = c.args in
    both_set c.self.inside.buckets.contents c.write_slot.new.self.contents c.self.inside.index
    c.set.new.self a.bucket a.slot (slot_with a.position a.pair a.block.now) c.self.invariant
    (c.set.ensures
    ∙ ap (λ (o : Option _). with_other c.self.inside.index (a.bucket, a.slot) o)
    (other_written a.position a.pair a.block.now a.bucket c.other_of-other.result
    c.requires.position c.other_of-other.ensures))
    c.write_slot.ensures.contents
