-- What takes the entries of a run, where took says what it became by taking some after others.
use Rattle.std.specs.Prelude.{ℕ, List, [], ◌++◌}
use Rattle.tk_shape.specs.declared.shape.Shape.{Shape}
use Rattle.tk_schedule.specs.declared.history.History.{History}
use Rattle.tk_script.specs.declared.script.Script.{Script}
use Rattle.tk_words.specs.Words.{WordBook, words_of}
use Rattle.tk_frames.specs.declared.entry.Placed.{Placed}
use Rattle.tk_frames.specs.declared.entry.Entry.{Entry}
use Rattle.tk_frames.specs.InOrder.{IsNext}
use Rattle.tk_report.specs.Entries.{write_at, entries_at}
use Rattle.tk_report.specs.Turns.{placed_before, next_placed}

-- from what it was, which had taken E, it became what it is by taking F
abbrev pub Taking : Type 0 → Type 1
Taking X = X → Shape → List Placed → List Placed → X → Type 0

-- it has taken the entries of the turns before turn g, and took those of turn g after them
abbrev pub IsBeforeTurn : {X : Type 0} → Taking X → Script → WordBook → History → ℕ → X → Type 0
IsBeforeTurn took S b H g x = took x S.shape (placed_before S (words_of S.shape b) H g) [] x

abbrev pub TookTurn : {X : Type 0} → Taking X → Script → WordBook → History → ℕ → X → X → Type 0
TookTurn took S b H g was is =
    let w = words_of S.shape b in
    took was S.shape (placed_before S w H g) (entries_at (write_at S w) H g) is

-- it has taken entries, whichever
pub record HasTaken {X : Type 0} (took : Taking X) (x : X) : Type 0 where
  pub was : X
  pub shape : Shape
  pub E : List Placed
  pub F : List Placed
  pub has : took was shape E F x

-- and this one is next
pub record MayTake {X : Type 0} (took : Taking X) (p : Placed) (x : X) : Type 0 where
  pub was : X
  pub shape : Shape
  pub E : List Placed
  pub F : List Placed
  pub has : took was shape E F x
  pub next : IsNext shape (E ++ F) p

-- and this one is, wherever it stands
pub record MayPlace {X : Type 0} (took : Taking X) (entry : Entry) (x : X) : Type 0 where
  pub was : X
  pub shape : Shape
  pub E : List Placed
  pub F : List Placed
  pub has : took was shape E F x
  pub next : IsNext shape (E ++ F) (next_placed (E ++ F) entry)
