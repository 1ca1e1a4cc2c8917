-- A run under wrong replies is one under servers that reply so; where all of them are honest it is the
-- run itself.
use Rattle.std.specs.Prelude.{◌≡◌, ◌≢◌, ℕ, ◌<◌, ◌≤◌}
use Rattle.tk_shape.specs.Lengths.{turn_count}
use Rattle.tk_schedule.specs.declared.history.History.{History}
use Rattle.tk_schedule.specs.Schedule.{IsLegal}
use Rattle.tk_script.specs.declared.script.Script.{Script}
use Rattle.tk_words.specs.Words.{WordBook, BookWords, IsBook, words_of}
use Rattle.tk_report.specs.Exchange.{read_at, view}
use Rattle.tk_report.specs.Report.{read_over, logs}
use Rattle.tk_report.specs.Serving.{Serving, honest, reader_under}
use Rattle.tk_hostile.specs.Choice.{Choice, own_sums, reply_by}
use Rattle.tk_hostile.specs.Wrong.{wrong_reader, wrong_view, wrong_logs}

-- servers that tell the filter as honest ones do, of which all but h reply as is chosen
abbrev pub wrong : Script → BookWords → History → ℕ → Choice → Serving
wrong S w H h F =
    record (honest S w H) {
      reply = λ g c j r. reply_by S.shape h F (read_over S w H g c) r j;
    }

-- under them a client is the reader that it is under wrong replies
abbrev pub WrongReaders : Type 0
WrongReaders =
    (S : Script) (b : WordBook) (H : History) (h : ℕ) (F : Choice) (c g : ℕ) →
    wrong_reader S b H h F c g ≡ reader_under S b H (wrong S (words_of S.shape b) H h F) c g

-- what an honest server replies to the read frame that it gets in the run
abbrev pub honest_sums : Script → WordBook → History → Choice
honest_sums S b H g c j =
    own_sums S.shape (read_over S (words_of S.shape b) H g c) (read_at S b H g c j)

-- so replies each server but the hidden one, in the run of a legal history
pub record AreHonest (S : Script) (b : WordBook) (H : History) (h : ℕ) (F : Choice) : Type 0 where
  pub book : IsBook S.shape b
  pub legal : IsLegal S.shape H
  pub replies : (g c j : ℕ) → g < turn_count S.shape → c < S.shape.clients → 1 ≤ j →
      j ≤ S.shape.servers → j ≢ h → F g c j ≡ honest_sums S b H g c j

-- then each server sees what it sees in the run
abbrev pub HonestView : Type 0
HonestView =
    (S : Script) (b : WordBook) (H : History) (h j : ℕ) (F : Choice) → AreHonest S b H h F →
    wrong_view S b H h F j ≡ view S b H j

-- and each log gives to each client what it gives in it
abbrev pub HonestLogs : Type 0
HonestLogs =
    (S : Script) (b : WordBook) (H : History) (h c : ℕ) (F : Choice) → AreHonest S b H h F →
    c < S.shape.clients → wrong_logs S b H h F c ≡ logs S (words_of S.shape b) H c
