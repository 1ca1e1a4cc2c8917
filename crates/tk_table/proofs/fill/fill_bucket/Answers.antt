use Rattle.std.proofs.Common.{◌∙◌, ◌<◌, arith, length, map, sym}
use Rattle.std.specs.Prelude.{None}
use Rattle.std.proofs.lemmas.List.{length-map, get_or-map}
use Rattle.tk_bucket.specs.Table.{bucket_at, empty_slot}
use Rattle.tk_table.specs.Table.{other_in}
use Rattle.tk_table.proofs.Filling.{filled_more}
use Rattle.tk_table.proofs.fill.fill_bucket.Goals as goal

pub loop-slot-preserved : goal.loop-slot-preserved
loop-slot-preserved c =
    let slots = bucket_at c.args.buckets.now.contents.table c.args.bucket in
    let deep = c.sized.ensures.sizes.slots c.args.bucket c.requires.bucket in
    let count = length-map slots (other_in c.args.bucket) in
    let inner : c.loop-slot.slot < length slots = omega (arith, deep, c.requires.depth, c.loop-slot-test.true) in
    let long = c.requires.deep ∙ c.requires.depth ∙ sym deep ∙ sym count in
    filled_more c.args.index.now c.args.bucket (map (other_in c.args.bucket) slots) c.requires.wide
    long c.loop-slot.slot c.loop-slot.index c.set.new.self c.seen_in.result
    (omega (arith, inner, count))
    (c.seen_in.ensures ∙ sym (get_or-map (other_in c.args.bucket) slots c.loop-slot.slot (empty_slot 0) None inner))
    c.loop-slot.invariant c.set.ensures
