-- How many writes of an order are displaced when they come.
use Rattle.std.specs.Prelude.{ℕ, ◌+◌, cond, List, [], ◌∷◌, ◌++◌}
use Rattle.tk_shape.specs.declared.shape.Shape.{Shape}
use Rattle.tk_schedule.specs.declared.history.History.{History}
use Rattle.tk_script.specs.declared.script.Script.{Script}
use Rattle.tk_words.specs.Words.{BookWords}
use Rattle.tk_frames.specs.declared.entry.Placed.{Placed}
use Rattle.tk_frames.specs.Order.{Record, records}
use Rattle.tk_table.specs.Table.{retained_with, unexpired, fit_together}
use Rattle.tk_report.specs.Entries.{entries}

-- how many of these writes find no place when they come, after R of which K is retained
unfoldable pub displaced_on : Shape → List Record → List Record → List Record → ℕ
displaced_on shape R K [] = 0
displaced_on shape R K (w ∷ ws) =
    cond (fit_together shape (unexpired shape R w K ++ w ∷ [])) 0 1
    + displaced_on shape (R ++ w ∷ []) (retained_with shape R K w) ws

-- those of an order
abbrev pub displaced_in : Shape → List Placed → ℕ
displaced_in shape E = displaced_on shape [] [] (records E)

-- and those of a run
abbrev pub displaced_count : Script → BookWords → History → ℕ
displaced_count S w H = displaced_in S.shape (entries S w H)
