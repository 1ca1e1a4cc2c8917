-- The clients so far stand at the places of their writes.
use Rattle.std.proofs.Common.{◌≡◌, ◌+◌, length, take}
use Rattle.std.specs.Prelude.{replicate}
use Rattle.tk_schedule.specs.declared.item.Item.TheVariants.{Publish}
use Rattle.tk_schedule.specs.Schedule.{marks_due}
use Rattle.tk_run.specs.Ran.{placed_clients}
use Rattle.tk_run.specs.Courses.{entries_behind}
use Rattle.tk_run.proofs.turn_order.order_from.Given as goal

abbrev pub invariant-placing : goal.invariant-placing
invariant-placing l =
    let count = l.shape.clients + marks_due l.shape l.turn in
    record {
      counted : length l.order.items ≡ count;
      placed : l.order.items ≡ placed_clients (entries_behind l.shape l.turn) 0 (take l.i l.deeds)
          (replicate count Publish);
    }
