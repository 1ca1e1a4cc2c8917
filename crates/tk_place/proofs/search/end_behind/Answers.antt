use Rattle.std.proofs.Common.{get_or, ◌++◌, ◌∷◌, [], length, Some, ap, sym, ◌∙◌, arith}
use Rattle.tk_place.specs.Place.{slots_of, not_before}
use Rattle.tk_place.specs.Views.{reached_by}
use Rattle.tk_place.proofs.Leading.{row_below, row_long, full_so_far, all_full, found_behind}
use Rattle.tk_place.proofs.search.end_behind.Goals as goal

pub free-requires : goal.free-requires
free-requires g c =
    let T = g.V.Slots.others c.args.slots.now in
    let row = c.others-others.result.now in
    let long = row_long T _ c.bucket.result row c.requires.table (omega (arith, c.bucket.ensures.within, c.requires.size)) c.others-others.ensures in
    row_below T _ _ c.loop-slot.slot row c.requires.table c.others-others.ensures (omega (arith, long, c.requires.depth, c.loop-slot-test.true))

pub add-requires-clause-bucket : goal.add-requires-clause-bucket
add-requires-clause-bucket g c =
    let T = g.V.Slots.others c.args.slots.now in
    let row = c.others-others.result.now in
    let long = row_long T _ c.bucket.result row c.requires.table (omega (arith, c.bucket.ensures.within, c.requires.size)) c.others-others.ensures in
    let below = row_below T _ _ c.loop-slot.slot row c.requires.table c.others-others.ensures (omega (arith, long, c.requires.depth, c.loop-slot-test.true)) in
    omega (arith, below, c.requires.size, c.loop-slot.invariant.0)

pub add-requires-clause-link : goal.add-requires-clause-link
add-requires-clause-link g c = omega (arith, c.requires.place, ap length c.loop-slot.invariant.1)

pub returns-in-Some-clause-size : goal.returns-in-Some-clause-size
returns-in-Some-clause-size g c = c.add.ensures.buckets ∙ c.loop-slot.invariant.0

pub returns-in-Some-clause-end : goal.returns-in-Some-clause-end
returns-in-Some-clause-end g c =
    let T = g.V.Slots.others c.args.slots.now in
    let row = c.others-others.result.now in
    let old = c.args.queue.now.places in
    let long = row_long T _ c.bucket.result row c.requires.table (omega (arith, c.bucket.ensures.within, c.requires.size)) c.others-others.ensures in
    let link = Some (record { place = c.args.place; slot = c.loop-slot.slot }) in
    found_behind T old c.add.new.self.places c.args.place c.loop-slot.slot c.in-Some.free c.len.result row c.requires.full
    (ap (slots_of T) (sym c.bucket.ensures.bucket) ∙ c.others-others.ensures)
    (omega (arith, long, c.requires.depth, c.loop-slot-test.true)) c.loop-slot.invariant.3
    (sym c.free.ensures ∙ c.in-Some.is)
    (c.add.ensures.places ∙ ap (λ ps. ps ++ not_before ps (reached_by ps (get_or row c.loop-slot.slot 0) link ∷ [])) c.loop-slot.invariant.1)
    (c.len.ensures.len ∙ ap length c.loop-slot.invariant.1)

pub loop-slot-preserved : goal.loop-slot-preserved
loop-slot-preserved g c =
    let T = g.V.Slots.others c.args.slots.now in
    let row = c.others-others.result.now in
    let long = row_long T _ c.bucket.result row c.requires.table (omega (arith, c.bucket.ensures.within, c.requires.size)) c.others-others.ensures in (
      c.loop-slot.invariant.0,
      c.loop-slot.invariant.1,
      omega (arith, c.loop-slot-test.true),
      full_so_far T _ c.loop-slot.slot row (ap (slots_of T) (sym c.bucket.ensures.bucket) ∙ c.others-others.ensures)
          (omega (arith, long, c.requires.depth, c.loop-slot-test.true)) (sym c.free.ensures ∙ c.in_default.is) c.loop-slot.invariant.3,
    )

pub returns-clause-size : goal.returns-clause-size
returns-clause-size g c = c.loop-slot.invariant.0

pub returns-clause-end : goal.returns-clause-end
returns-clause-end g c =
    all_full _ _ _ c.loop-slot.slot c.requires.table
    (omega (arith, c.bucket.ensures.within, c.bucket.ensures.bucket, c.requires.size))
    (omega (arith, c.requires.depth, c.loop-slot-test.false)) c.loop-slot.invariant.3
