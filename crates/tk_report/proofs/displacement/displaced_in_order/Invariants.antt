-- The entries so far were counted.
use Rattle.std.proofs.Common.{map, take}
use Rattle.std.specs.Arc.{arc_value}
use Rattle.tk_report.specs.Counts.{HasCounted}
use Rattle.tk_report.proofs.displacement.displaced_in_order.Given as goal

abbrev pub invariant-entries : goal.invariant-entries
invariant-entries l =
    HasCounted l.shape (take l.placed-index (map (λ a. arc_value a) l.order)) l.count
