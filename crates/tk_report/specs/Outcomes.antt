-- The text of what a run left, and what the run of a script leaves.
use Rattle.std.specs.Prelude.{◌≡◌, ℕ, List, length}
use Rattle.tk_schedule.specs.declared.history.History.{History}
use Rattle.tk_schedule.specs.Schedule.{IsLegal}
use Rattle.tk_script.specs.declared.script.Script.{Script}
use Rattle.tk_words.specs.Words.{BookWords}
use Rattle.tk_client.specs.Client.{ClientState}
use Rattle.tk_report.specs.declared.outcome.Outcome.{Outcome}
use Rattle.tk_report.specs.Clients.{AreClientsAtEnd}
use Rattle.tk_report.specs.Leaving.{left_text}
use Rattle.tk_report.specs.Report.{report_of}
use Rattle.tk_report.specs.Displaced.{displaced_count}

abbrev pub outcome_text : Outcome → List ℕ
outcome_text o = left_text o.shape o.roles o.history o.clients

-- The run of a script with these words and this legal history has these clients at its end, and
-- so many of its writes were displaced when they came.
pub record HasEnded (S : Script) (w : BookWords) (H : History) (left : List ClientState)
    (count : ℕ) : Type 0 where
  pub legal : IsLegal S.shape H
  pub clients : AreClientsAtEnd S w H left
  pub displaced : count ≡ displaced_count S w H

-- the run of a script with these words and this history left it
pub record IsLeftBy (S : Script) (w : BookWords) (H : History) (o : Outcome) : Type 0 where
  pub shape : o.shape ≡ S.shape
  pub roles : o.roles ≡ S.roles
  pub history : o.history ≡ H
  pub clients : AreClientsAtEnd S w H o.clients
  pub said : o.said ≡ length S.says
  pub displaced : o.displaced ≡ displaced_count S w H

-- its text is the report of the run
abbrev pub OutcomesReport : Type 0
OutcomesReport =
    (S : Script) (w : BookWords) (H : History) (o : Outcome) → IsLeftBy S w H o →
    outcome_text o ≡ report_of S w H
