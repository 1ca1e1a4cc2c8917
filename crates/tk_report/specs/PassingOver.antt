-- What it means that a number of a log was rightly passed over.
use Rattle.std.specs.Prelude.{◌≡◌, ℕ, ◌<◌, ◌≤◌, true, List, slice_get, Contains, Some}
use Rattle.tk_shape.specs.Lengths.{turn_count}
use Rattle.tk_schedule.specs.declared.history.History.{History}
use Rattle.tk_script.specs.declared.script.Script.{Script}
use Rattle.tk_script.specs.Sent.{Sending, sent}
use Rattle.tk_words.specs.Words.{WordBook, BookWords, IsBook, words_of}
use Rattle.tk_frames.specs.Order.{Record}
use Rattle.tk_table.specs.Table.{window, retained}
use Rattle.tk_client.specs.declared.got.Got.{Got}
use Rattle.tk_client.specs.declared.got.Got.TheVariants.{Absent, Text}
use Rattle.tk_table.specs.Shown.{is_shown}
use Rattle.tk_client.specs.declared.target.Target.{Target}
use Rattle.tk_report.specs.Entries.{write_at}
use Rattle.tk_report.specs.Report.{lookup, read_over, target_at, got_of}

-- the record is that of number s of a log: the write of a client in a turn in which it sent it
pub record IsRecordOf (S : Script) (w : BookWords) (log s : ℕ) (r : Record) : Type 0 where
  pub turn : ℕ
  pub client : ℕ
  pub sending : Sending
  pub sends : sent S turn client ≡ Some sending
  pub of_log : sending.log ≡ log
  pub of_number : sending.number ≡ s
  pub written : r.write ≡ write_at S w turn client

-- of these records, none that is retained is the record of number s of a log
abbrev pub IsNotRetained : Script → BookWords → List Record → ℕ → ℕ → Type 0
IsNotRetained S w R log s =
    (r : Record) → Contains (retained S.shape R) r → IsRecordOf S w log s r → ⊥

-- a client's read in turn g was for number s of a log, and the answer was this text
pub record Reads (S : Script) (w : BookWords) (H : History) (c g log s : ℕ) (text : List ℕ)
    : Type 0 where
  pub target : Target
  pub asks : target_at S w H g c ≡ Some target
  pub of_log : target.log ≡ log
  pub of_number : target.number ≡ s
  pub answer : lookup S.shape w (read_over S w H g c) log s ≡ Some text

-- after number s, number n is the next that gave a text
pub record IsNextText (got : List Got) (s n : ℕ) (text : List ℕ) : Type 0 where
  pub behind : s < n
  pub gave : slice_get got n ≡ Some (Text text)
  pub between : (k : ℕ) → s < k → k < n → slice_get got k ≡ Some Absent

-- The next number that the client did get was read in a turn of the run, in an epoch in which the
-- record of number s, if there is one, wasn't retained; and the shape lets a client read ahead by two
-- numbers or more.
pub record IsRightlyPassed (S : Script) (w : BookWords) (H : History) (c log : ℕ) (got : List Got)
    (s : ℕ) : Type 0 where
  pub number : ℕ
  pub text : List ℕ
  pub next : IsNextText got s number text
  pub turn : ℕ
  pub in_run : turn < turn_count S.shape
  pub reads : Reads S w H c turn log number text
  pub not_retained : IsNotRetained S w (read_over S w H turn c) log s
  pub two_ahead : 2 ≤ S.shape.ahead

-- in whatever history, each number that a log didn't give to a client was rightly passed over
abbrev pub HonestPassingOver : Type 0
HonestPassingOver =
    (S : Script) (b : WordBook) (H : History) (c log s : ℕ) → IsBook S.shape b →
    let w = words_of S.shape b in
    let got = got_of S w H c log in
    slice_get got s ≡ Some Absent → IsRightlyPassed S w H c log got s

-- whatever the writes are: if the record of a number is among the latest, the number is shown
abbrev pub RecordsAreShown : Type 0
RecordsAreShown =
    (S : Script) (w : BookWords) (R : List Record) (log s : ℕ) (r : Record) →
    Contains (window S.shape R) r → IsRecordOf S w log s r →
    is_shown S.shape R (w.hits log s) ≡ true
