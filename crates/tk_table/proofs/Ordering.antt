-- The writes of an order are in order.
use Rattle.std.proofs.Common.{◌≡◌, ℕ, ◌+◌, arith, List, [], ◌∷◌}
use Rattle.std.specs.List.{AllByRecursion, cons_option}
use Rattle.tk_shape.specs.declared.shape.Shape.{Shape}
use Rattle.tk_frames.specs.declared.entry.Placed.{Placed}
use Rattle.tk_frames.specs.declared.entry.Entry.{Entry}
use Rattle.tk_frames.specs.declared.entry.Entry.TheVariants.{Write, Mark}
use Rattle.tk_frames.specs.Order.{Record, record_at, records}
use Rattle.tk_frames.specs.Ranges.{IsEntry}
use Rattle.tk_table.specs.Ordered.{AscendFrom, HasBuckets, AreOrdered}
use Rattle.tk_frames.specs.InOrder.{IsOrderFrom, IsOrder, number_after}
use Rattle.tk_table.proofs.Ascending.{ascend-lower}

ascend-entry : (at place : ℕ) (x : Entry) (R : List Record) → at ≡ place →
    AscendFrom (place + 1) R → AscendFrom place (cons_option (record_at at x) R)
ascend-entry at place (Write w) R same h =
    (omega (arith, same), ascend-lower (at + 1) (place + 1) R (omega (arith, same)) h)
ascend-entry at place (Mark e) R same h =
    ascend-lower place (place + 1) R (omega arith) h

buckets-entry : (shape : Shape) (at : ℕ) (x : Entry) (R : List Record) → IsEntry shape x →
    AllByRecursion (HasBuckets shape) R →
    AllByRecursion (HasBuckets shape) (cons_option (record_at at x) R)
buckets-entry shape at (Write w) R in_range h =
    (record { first = in_range.first; second = in_range.second }, h)
buckets-entry shape at (Mark e) R in_range h = h

from-ascend : (shape : Shape) (place due : ℕ) (E : List Placed) →
    IsOrderFrom shape place due E → AscendFrom place (records E)
from-ascend shape place due [] order = tt
from-ascend shape place due (p ∷ E) order =
    ascend-entry p.position place p.entry (records E) (order.0).at
    (from-ascend shape (place + 1) (number_after due p.entry) E order.1)

from-buckets : (shape : Shape) (place due : ℕ) (E : List Placed) →
    IsOrderFrom shape place due E → AllByRecursion (HasBuckets shape) (records E)
from-buckets shape place due [] order = tt
from-buckets shape place due (p ∷ E) order =
    buckets-entry shape p.position p.entry (records E) (order.0).in_range.entry
    (from-buckets shape (place + 1) (number_after due p.entry) E order.1)

pub order-writes : (shape : Shape) (E : List Placed) → IsOrder shape E →
    AreOrdered shape (records E)
order-writes shape E order =
    record { ascend = from-ascend shape 1 1 E order; within = from-buckets shape 1 1 E order }
