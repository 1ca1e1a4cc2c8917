-- Runs whose servers are alike where it counts; and a run whose servers begin anew before a turn, each
-- from some entries, whatever they are given.
use Rattle.std.specs.Prelude.{◌≡◌, ℕ, ◌+◌, ◌<◌, ◌≤◌, nat_le, cond, List, ◌++◌, length, drop}
use Rattle.tk_shape.specs.Lengths.{turn_count}
use Rattle.tk_schedule.specs.declared.history.History.{History}
use Rattle.tk_schedule.specs.Schedule.{IsLegal, epoch_at}
use Rattle.tk_script.specs.declared.script.Script.{Script}
use Rattle.tk_words.specs.Words.{WordBook, BookWords, IsBook, words_of}
use Rattle.tk_frames.specs.declared.entry.Placed.{Placed}
use Rattle.tk_frames.specs.Order.{before}
use Rattle.tk_table.specs.Replies.{reply_to}
use Rattle.tk_table.specs.Shown.{is_shown}
use Rattle.tk_report.specs.Exchange.{exchange}
use Rattle.tk_report.specs.Report.{report}
use Rattle.tk_report.specs.Turns.{placed_before}
use Rattle.tk_report.specs.Serving.{Serving, reader_under, exchange_under, report_under}

-- ---- servers that are alike where it counts

-- in each turn and to each client they tell and reply the same
pub record Alike (S : Script) (V W : Serving) : Type 0 where
  pub shows : (g c : ℕ) → g < turn_count S.shape → c < S.shape.clients → V.shows g c ≡ W.shows g c
  pub reply : (g c : ℕ) → g < turn_count S.shape → c < S.shape.clients → V.reply g c ≡ W.reply g c

-- then each client knows the same before each turn, all see the same, and the report is the same
pub record SameRun (S : Script) (b : WordBook) (H : History) (V W : Serving) : Type 0 where
  pub readers : (c g : ℕ) → c < S.shape.clients → g ≤ turn_count S.shape →
      reader_under S b H V c g ≡ reader_under S b H W c g
  pub exchange : (j : ℕ) → exchange_under S b H V j ≡ exchange_under S b H W j
  pub report : report_under S b H V ≡ report_under S b H W

abbrev pub AlikeRuns : Type 0
AlikeRuns =
    (S : Script) (b : WordBook) (H : History) (V W : Serving) → Alike S V W → SameRun S b H V W

-- ---- servers that begin anew

-- the entries that server j holds when turn g is read, where before turn due it began anew from some:
-- from then on those, and behind them what was taken since
abbrev pub held_anew :
    Script → BookWords → History → ℕ → (ℕ → List Placed) → ℕ → ℕ → List Placed
held_anew S w H due given j g =
    let all = placed_before S w H (g + 1) in
    cond (nat_le due g) (given j ++ drop (length (placed_before S w H due)) all) all

abbrev pub anew : Script → BookWords → History → ℕ → (ℕ → List Placed) → Serving
anew S w H due given =
    record {
      shows = λ g c log s. is_shown S.shape
          (before (held_anew S w H due given 1 g) (epoch_at H g c)) (w.hits log s);
      reply = λ g c j r. reply_to S.shape (before (held_anew S w H due given j g) (epoch_at H g c)) r;
    }

-- from the entries so far each goes on as if nothing were
abbrev pub AnewFromOwn : Type 0
AnewFromOwn =
    (S : Script) (b : WordBook) (H : History) (due j : ℕ) (given : ℕ → List Placed) →
    IsBook S.shape b → IsLegal S.shape H →
    ((i : ℕ) → given i ≡ placed_before S (words_of S.shape b) H due) →
    (exchange_under S b H (anew S (words_of S.shape b) H due given) j ≡ exchange S b H j)
    × (report_under S b H (anew S (words_of S.shape b) H due given) ≡ report S b H)
