-- The history that a report shows.
use Rattle.std.specs.Prelude.{◌≡◌, ℕ, nat_eq, Bool, ◌||◌, IsTrue, List, [], ◌∷◌, ◌++◌, codes}
use Rattle.std.specs.List.{starts_with}
use Rattle.tk_shape.specs.declared.shape.Shape.{Shape}
use Rattle.tk_schedule.specs.declared.history.History.{History}
use Rattle.tk_schedule.specs.Schedule.{IsLegal}
use Rattle.tk_report.specs.Report.{line, history_lines}

abbrev pub begins_with : List ℕ → List ℕ → Bool
begins_with word text = starts_with nat_eq text word

-- the bytes begin as a report of this history does
pub record ShowsHistory (shape : Shape) (bytes : List ℕ) (H : History) : Type 0 where
  pub legal : IsLegal shape H
  pub rest : List ℕ
  pub front : bytes ≡ line (codes "report" ∷ []) ++ history_lines shape H ++ rest
  pub stops : IsTrue (begins_with (codes "log") rest || begins_with (codes "unsent") rest)
