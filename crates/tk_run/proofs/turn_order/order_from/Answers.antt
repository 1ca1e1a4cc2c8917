-- One more client stands at the place of its write.
use Rattle.std.proofs.Common.{◌+◌, ◌-◌, ◌<◌, ap, ◌∙◌, arith, length, length-set, ℕ}
use Rattle.std.specs.Prelude.{replicate, slice_set}
use Rattle.tk_schedule.specs.declared.item.Item.TheVariants.{Client, Publish}
use Rattle.tk_schedule.specs.Schedule.{marks_due}
use Rattle.tk_run.specs.Courses.{entries_behind}
use Rattle.tk_run.proofs.Placing.{placed-next}
use Rattle.tk_run.proofs.turn_order.order_from.Goals as goal

pub placing-preserved : goal.placing-preserved
placing-preserved c =
    let shape = c.args.shape.now in
    let deeds = c.args.deeds.now in
    let order = c.placing.order.items in
    let deed = c.index-deeds-i.result in
    let i = c.placing.i in
    let start = entries_behind shape c.args.turn in
    let blank = replicate (shape.clients + marks_due shape c.args.turn) Publish in
    let low : i < length deeds = omega (arith, c.placing-test.true) in
    record {
      counted =
          length-set order (deed.position - c.behind-start.result - 1) (Client i)
          ∙ c.placing.invariant.counted;
      placed =
          ap (λ (k : ℕ). slice_set order (deed.position - k - 1) (Client i)) c.behind-start.ensures
          ∙ placed-next start i deeds deed blank order low c.index-deeds-i.is
          c.placing.invariant.placed;
    }
