-- What the lines of a report say of its history, and the first of them that isn't the one due.
use Rattle.std.specs.Prelude.{ℕ, ◌+◌, Bool, ◌||◌, cond, List, [], ◌∷◌, codes, Option, Some, Ok, Err}
use Rattle.std.specs.Str.{bytes_eq}
use Rattle.tk_shape.specs.declared.shape.Shape.{Shape}
use Rattle.tk_schedule.specs.declared.raw.RawLine.{RawLine}
use Rattle.tk_schedule.specs.declared.raw.RawKind.{RawKind}
use Rattle.tk_schedule.specs.declared.raw.RawKind.TheVariants.{Order, End}
use Rattle.tk_schedule.specs.Due.{bad_line}
use Rattle.tk_script.specs.Grammar.{Line}
use Rattle.tk_script.specs.Reading.{Verdict, read_turn}
use Rattle.tk_report.specs.Shown.{begins_with}

-- ---- a line

-- what stands for a line that says nothing of a history: it is never due, since phases count from 1
abbrev pub no_line : RawKind
no_line = Order 0 0 []

abbrev pub kind_or : Verdict RawKind → RawKind
kind_or (Ok kind) = kind
kind_or (Err c) = no_line

-- an order or the epochs of a turn, as the line of a history in an input says it
unfoldable pub kind_said : Line → RawKind
kind_said line = kind_or (read_turn line)

-- ---- the lines of a history

-- the first line after a history
abbrev pub stops : Line → Bool
stops line = begins_with (codes "log") line || begins_with (codes "unsent") line

-- The lines up to the first that stops, numbered from this number on, with an end in the place of
-- that one. Where none stops, a line that is never due stands after them.
unfoldable pub raw_from : ℕ → List Line → List RawLine
raw_from n [] =
    record { line = n; kind = no_line } ∷ record { line = n; kind = End } ∷ []
raw_from n (l ∷ ls) =
    cond (stops l) (record { line = n; kind = End } ∷ [])
    (record { line = n; kind = kind_said l } ∷ raw_from (n + 1) ls)

-- the first bad line of a report, none where its lines are those of a legal history
unfoldable pub bad_report_line : Shape → List Line → Option ℕ
bad_report_line shape [] = Some 1
bad_report_line shape (l ∷ ls) =
    cond (bytes_eq l (codes "report")) (bad_line shape (raw_from 2 ls)) (Some 1)
