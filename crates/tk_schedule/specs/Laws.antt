-- What lines tell.
use Rattle.std.specs.Prelude.{◌≡◌, ◌↔◌, ℕ, List, [], ◌∷◌, ◌++◌, IsTrue, not, Some, None}
use Rattle.std.specs.List.{list_all}
use Rattle.tk_shape.specs.declared.shape.Shape.{Shape}
use Rattle.tk_schedule.specs.declared.raw.RawLine.{RawLine}
use Rattle.tk_schedule.specs.declared.raw.RawKind.TheVariants.{End}
use Rattle.tk_schedule.specs.declared.history.History.{History}
use Rattle.tk_schedule.specs.Raw.{is_end, ends_once, kinds}
use Rattle.tk_schedule.specs.Schedule.{serial_history}
use Rattle.tk_schedule.specs.Due.{bad_line}
use Rattle.tk_schedule.specs.Told.{lines_due, Tells, IsFirstBad}

-- lines tell one history at most
abbrev pub TellsOne : Type 0
TellsOne =
    (shape : Shape) (raw : List RawLine) (G H : History) → Tells shape raw G → Tells shape raw H →
    G ≡ H

-- of lines that tell a history the last alone is an End
abbrev pub EndsWhereTold : Type 0
EndsWhereTold =
    (shape : Shape) (raw : List RawLine) (H : History) → Tells shape raw H → IsTrue (ends_once raw)

-- an End after lines of which none is one ends them
abbrev pub EndsBehind : Type 0
EndsBehind =
    (raw : List RawLine) (line : ℕ) → IsTrue (list_all (λ l. not (is_end l.kind)) raw) →
    IsTrue (ends_once (raw ++ record { line = line; kind = End } ∷ []))

-- the serial history's lines tell it, under any numbers
abbrev pub TellsSerial : Type 0
TellsSerial =
    (shape : Shape) (raw : List RawLine) → kinds raw ≡ lines_due shape (serial_history shape) →
    Tells shape raw (serial_history shape)

-- of lines of which the last alone is an End none is bad exactly where they tell a history
abbrev pub NoneBad : Type 0
NoneBad =
    (shape : Shape) (raw : List RawLine) → IsTrue (ends_once raw) →
    (bad_line shape raw ≡ None) ↔ ((H : History) × Tells shape raw H)

-- and the bad line is the first with which no legal history's lines go on
abbrev pub FirstBad : Type 0
FirstBad =
    (shape : Shape) (raw : List RawLine) (at : ℕ) → IsTrue (ends_once raw) →
    (bad_line shape raw ≡ Some at) ↔ IsFirstBad shape raw at
