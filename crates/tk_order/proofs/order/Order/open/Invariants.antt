use Rattle.std.proofs.Common.{◌≡◌, []}
use Rattle.tk_order.specs.Rules.{blank_view}
use Rattle.tk_order.specs.Seats.{opened}
use Rattle.tk_order.proofs.order.Order.open.Given as goal

abbrev pub invariant-loop-number : goal.invariant-loop-number
invariant-loop-number g l = (l.seats.items ≡ opened l.number) × (l.place.table_id ≡ g.B.Naming.table) × (l.place.me ≡ (blank_view, []))
