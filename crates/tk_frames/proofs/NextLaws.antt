-- The entry that may stand next in an order.
use Rattle.std.proofs.Common.{ℕ, ◌+◌, ◌*◌, ◌<◌, ◌≤◌, refl, arith, List, [], ◌∷◌, length}
use Rattle.tk_shape.specs.declared.shape.Shape.{Shape}
use Rattle.tk_shape.specs.Lengths.{turn_count}
use Rattle.tk_frames.specs.declared.write_frame.WriteFrame.{WriteFrame}
use Rattle.tk_frames.specs.declared.entry.Placed.{Placed}
use Rattle.tk_frames.specs.declared.entry.Entry.{Entry}
use Rattle.tk_frames.specs.declared.entry.Entry.TheVariants.{Write, Mark}
use Rattle.tk_frames.specs.Order.{records}
use Rattle.tk_frames.specs.Ranges.{IsEntry, IsWrite}
use Rattle.tk_frames.specs.InOrder.{mark_count, HasNumber, number_after, IsOrderFrom, IsOrder, IsNext}
use Rattle.tk_frames.proofs.MarkCounts.{length-writes_and_marks, due-next}

number-most : (shape : Shape) (due count : ℕ) (x : Entry) → IsEntry shape x → HasNumber due x →
    due ≤ shape.phases + 1 →
    (number_after due x ≤ shape.phases + 1 → number_after due x + count ≤ shape.phases + 1) →
    number_after due x + count ≤ shape.phases + 1
number-most shape due count (Write w) in_range number low later = later low
number-most shape due count (Mark e) in_range number low later =
    let high = in_range.1 in later (omega (arith, high, number))

from-most : (shape : Shape) (place due : ℕ) (E : List Placed) →
    IsOrderFrom shape place due E → due ≤ shape.phases + 1 →
    due + mark_count E ≤ shape.phases + 1
from-most shape place due [] order low = omega (arith, low)
from-most shape place due (p ∷ E) order low =
    let all =
    number-most shape due (mark_count E) p.entry (order.0).in_range.entry (order.0).number low
    (from-most shape (place + 1) (number_after due p.entry) E order.1)
    in
    omega (arith, all, due-next due p E)

-- there are at most as many marks as phases
pub marks-most : (shape : Shape) (E : List Placed) → IsOrder shape E →
    mark_count E ≤ shape.phases
marks-most shape E order =
    let most = from-most shape 1 1 E order (omega arith) in omega (arith, most)

-- a write in range, where fewer stand than a run has
pub next-write : (shape : Shape) (E : List Placed) (w : WriteFrame) → IsOrder shape E →
    IsWrite shape w → length (records E) < shape.clients * turn_count shape →
    IsNext shape E (record { position = length E + 1; entry = Write w })
next-write shape E w order in_range few =
    let most = marks-most shape E order in
    record {
      at = refl;
      in_range =
          record {
            position_low = omega arith;
            position_high = omega (arith, length-writes_and_marks E, most, few);
            entry = in_range;
          };
      number = tt;
    }

-- a mark, where fewer stand than there are phases, and no more writes than a run has
pub next-mark : (shape : Shape) (E : List Placed) → IsOrder shape E →
    length (records E) ≤ shape.clients * turn_count shape → mark_count E < shape.phases →
    IsNext shape E (record { position = length E + 1; entry = Mark (mark_count E + 1) })
next-mark shape E order few more =
    record {
      at = refl;
      in_range =
          record {
            position_low = omega arith;
            position_high = omega (arith, length-writes_and_marks E, more, few);
            entry = (omega arith, omega (arith, more));
          };
      number = refl;
    }
