use Rattle.std.proofs.Common.{map}
use Rattle.std.specs.Arc.{arc_value}
use Rattle.tk_order.specs.Stores.{Gathering}
use Rattle.tk_order.proofs.stored.Stored.close.Given as goal

abbrev pub invariant-loop-seat : goal.invariant-loop-seat
invariant-loop-seat g l = Gathering g.B.Naming.table (map (λ a. arc_value a) l.entries.items) l.yielded l.place

abbrev pub invariant-loop : goal.invariant-loop
invariant-loop g l = Gathering g.B.Naming.table (map (λ a. arc_value a) l.entries.items) l.fn.seats.items l.place
