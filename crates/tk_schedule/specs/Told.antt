-- Which lines tell a history, and what is answered to lines.
use Rattle.std.specs.Prelude.{◌≡◌, ℕ, ◌+◌, cond, List, [], ◌∷◌, ◌++◌, Option, Some, Result, Ok, Err}
use Rattle.tk_shape.specs.declared.shape.Shape.{Shape}
use Rattle.tk_schedule.specs.declared.raw.RawLine.{RawLine}
use Rattle.tk_schedule.specs.declared.raw.RawKind.{RawKind}
use Rattle.tk_schedule.specs.declared.raw.RawKind.TheVariants.{Order, Reads, End}
use Rattle.tk_schedule.specs.declared.history.TurnOrder.{TurnOrder}
use Rattle.tk_schedule.specs.declared.history.History.{History}
use Rattle.tk_schedule.specs.declared.error.HistoryError.{HistoryError}
use Rattle.tk_schedule.specs.declared.error.HistoryError.TheVariants.{Line, Memory}
use Rattle.tk_schedule.specs.Schedule.{phase_of, tick_of, is_closing, IsLegal}
use Rattle.tk_schedule.specs.Raw.{kinds}

-- a turn's lines: its order, and after that of a closing turn its epochs
abbrev pub turn_lines : Shape → ℕ → TurnOrder → List RawKind
turn_lines shape g turn =
    Order (phase_of shape g) (tick_of shape g) turn.order
    ∷ cond (is_closing shape g) (Reads (phase_of shape g) (tick_of shape g) turn.epochs ∷ []) []

-- the lines of turns, of which the first is turn g
abbrev pub lines_from : Shape → ℕ → List TurnOrder → List RawKind
lines_from shape g [] = []
lines_from shape g (turn ∷ turns) = turn_lines shape g turn ++ lines_from shape (g + 1) turns

-- the lines of a history: those of its turns, and then the end
abbrev pub lines_due : Shape → History → List RawKind
lines_due shape H = lines_from shape 0 H ++ End ∷ []

-- the lines are those of this legal history, up to their numbers
pub record Tells (shape : Shape) (raw : List RawLine) (H : History) : Type 0 where
  pub legal : IsLegal shape H
  pub lines : kinds raw ≡ lines_due shape H

-- a legal history's lines begin with these, up to their numbers
pub record Begins (shape : Shape) (raw : List RawLine) : Type 0 where
  pub history : History
  pub legal : IsLegal shape history
  pub rest : List RawKind
  pub lines : kinds raw ++ rest ≡ lines_due shape history

-- the first bad line and its number: a legal history begins with the lines before it, and none with
-- it after them
pub record IsFirstBad (shape : Shape) (raw : List RawLine) (at : ℕ) : Type 0 where
  pub before : List RawLine
  pub bad : RawLine
  pub behind : List RawLine
  pub whole : raw ≡ before ++ bad ∷ behind
  pub number : bad.line ≡ at
  pub due : Begins shape before
  pub undue : Begins shape (before ++ bad ∷ []) → ⊥

-- ---- answers

-- this is answered, unless memory ran out
abbrev pub Gives : {X : Type 0} → Result X HistoryError → (X → Type 0) → Type 0
Gives (Ok x) P = P x
Gives (Err (Line at)) P = ⊥
Gives (Err Memory) P = Unit {0}

-- the bad line is the one that is answered, or is left to what was read, unless memory ran out
abbrev pub Names : {X : Type 0} → (X → Option ℕ) → Result X HistoryError → Option ℕ → Type 0
Names left (Ok x) bad = bad ≡ left x
Names left (Err (Line at)) bad = bad ≡ Some at
Names left (Err Memory) bad = Unit {0}
