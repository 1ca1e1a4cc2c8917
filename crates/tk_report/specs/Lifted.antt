-- The report of a script in format 2.
use Rattle.std.specs.Prelude.{◌≡◌, Some}
use Rattle.tk_schedule.specs.declared.history.History.{History}
use Rattle.tk_script.specs.declared.script.Script.{Script}
use Rattle.tk_script.specs.Lifting.{lifted_script}
use Rattle.tk_words.specs.Words.{WordBook, IsBook}
use Rattle.tk_words.specs.Lifting.{lifted_book}
use Rattle.tk_report.specs.Report.{report}

-- A script in format 2 over its book in format 2 has the same report, whatever the history.
abbrev pub LiftedReports : Type 0
LiftedReports =
    (S T : Script) (b : WordBook) (H : History) → IsBook S.shape b → lifted_script S ≡ Some T →
    report T (lifted_book S.shape b) H ≡ report S b H
