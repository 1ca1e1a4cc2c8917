-- The entries of a turn are in range, and each is the next one.
use Rattle.std.proofs.Common.{◌≡◌, ℕ, ◌+◌, ◌*◌, ◌<◌, ◌≤◌, ap, arith, refl, List, [], ◌∷◌, ◌++◌, length-append}
use Rattle.std.proofs.lemmas.Nat.{mul-le}
use Rattle.tk_shape.specs.declared.shape.Shape.{Shape}
use Rattle.tk_shape.specs.Lengths.{turn_count}
use Rattle.tk_frames.specs.declared.entry.Placed.{Placed}
use Rattle.tk_frames.specs.declared.entry.Entry.TheVariants.{Write}
use Rattle.tk_frames.specs.declared.write_frame.WriteFrame.{WriteFrame}
use Rattle.tk_frames.specs.InOrder.{IsNext}
use Rattle.tk_frames.specs.Ranges.{IsPlaced, IsWrite}
use Rattle.tk_frames.proofs.Offers.{marks-write}
use Rattle.embed.specs.Turns.{IsBeforeTurn, mark_of}

-- where each turn closes a phase there are as many turns as phases
pub turns-phases : (shape : Shape) → shape.ticks ≡ 1 → turn_count shape ≡ shape.phases
turns-phases shape one = omega (arith, ap (λ (n : ℕ). shape.phases * n) one)

-- both entries of the turn that closes a phase have positions in range
room : (shape : Shape) (g : ℕ) → g < shape.phases →
    2 * g + 2 ≤ shape.clients * turn_count shape + shape.phases
room shape g low =
    let bound = shape.in_range in
    let turns : shape.phases * 1 ≤ turn_count shape =
    mul-le shape.phases 1 shape.phases shape.ticks (omega arith) bound.ticks_low
    in
    let writes : 1 * turn_count shape ≤ shape.clients * turn_count shape =
    mul-le 1 (turn_count shape) shape.clients (turn_count shape) bound.clients_low (omega arith)
    in
    omega (arith, low, turns, writes)

-- the record of a write in turn g
abbrev pub record_at : ℕ → WriteFrame → Placed
record_at g w = record { position = 2 * g + 1; entry = Write w }

pub next-record : (shape : Shape) (E : List Placed) (g : ℕ) (w : WriteFrame) →
    g < shape.phases → IsBeforeTurn g E → IsWrite shape w → IsNext shape E (record_at g w)
next-record shape E g w low is in_range =
    let room = room shape g low in
    record {
      at = omega (arith, is.entries);
      in_range =
          record {
            position_low = omega arith;
            position_high = omega (arith, room);
            entry = in_range;
          };
      number = tt;
    }

pub placed-mark : (shape : Shape) (g : ℕ) → g < shape.phases → IsPlaced shape (mark_of g)
placed-mark shape g low =
    record {
      position_low = omega arith;
      position_high = room shape g low;
      entry = (omega arith, omega (arith, low));
    }

pub next-mark : (shape : Shape) (E : List Placed) (g : ℕ) (w : WriteFrame) →
    g < shape.phases → IsBeforeTurn g E → IsNext shape (E ++ record_at g w ∷ []) (mark_of g)
next-mark shape E g w low is =
    let counted = length-append E (record_at g w ∷ []) in
    let marks = marks-write E (record_at g w) w refl in
    record {
      at = omega (arith, is.entries, counted);
      in_range = placed-mark shape g low;
      number = omega (arith, is.marks, marks);
    }
