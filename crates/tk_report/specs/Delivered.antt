-- In a clear run what is retained is delivered as it was written, and nothing else is.
use Rattle.std.specs.Prelude.{◌≡◌, ◌↔◌, ℕ, ◌<◌, ◌==◌, Bool, true, false, not, ◌&&◌, ◌||◌, List}
use Rattle.std.specs.Prelude.{Option, Some, None, is_some, Contains}
use Rattle.std.specs.List.{AllByRecursion, list_all, range_with_len}
use Rattle.tk_schedule.specs.declared.history.History.{History}
use Rattle.tk_script.specs.declared.script.Script.{Script}
use Rattle.tk_script.specs.Sent.{Sending, sent}
use Rattle.tk_shape.specs.Lengths.{turn_count}
use Rattle.tk_words.specs.Words.{WordBook, BookWords, IsBook, words_of, opened}
use Rattle.tk_words.specs.Opening.{IsNumber}
use Rattle.tk_frames.specs.Order.{Record, records, before}
use Rattle.tk_frames.specs.Slots.{text_in, text_from}
use Rattle.tk_table.specs.Table.{retained, layout}
use Rattle.tk_table.specs.Ordered.{AreOrdered}
use Rattle.tk_table.specs.Laws.{text_at, IsStorable, block_at}
use Rattle.tk_schedule.specs.Schedule.{IsLegal}
use Rattle.tk_report.specs.Entries.{write_at, entries}
use Rattle.tk_report.specs.Report.{lookup}
use Rattle.tk_report.specs.PassingOver.{IsRecordOf, IsNotRetained}

-- no write of a run gives a text for a number, but the record of that number
pub record IsClear (S : Script) (w : BookWords) (H : History) : Type 0 where
  pub own : (r : Record) (log s : ℕ) (text : List ℕ) → Contains (records (entries S w H)) r →
      IsNumber S.shape log s → text_in (w.pair log s) (opened w log s) r ≡ Some text →
      IsRecordOf S w log s r

-- of these records, a number's that is retained gives its text, and where none is retained there is
-- no text
pub record IsDelivered (S : Script) (w : BookWords) (R : List Record) (log s : ℕ) : Type 0 where
  pub written : (r : Record) → Contains (retained S.shape R) r → (known : IsRecordOf S w log s r) →
      lookup S.shape w R log s ≡ Some known.sending.text
  pub absent : IsNumber S.shape log s → IsNotRetained S w R log s → lookup S.shape w R log s ≡ None

-- in each epoch of a clear run
abbrev pub DeliversAsWritten : Type 0
DeliversAsWritten =
    (S : Script) (b : WordBook) (H : History) (e log s : ℕ) → IsBook S.shape b →
    let w = words_of S.shape b in
    IsClear S w H → IsDelivered S w (before (entries S w H) e) log s

-- the record of a number is one that a log has
abbrev pub SentInRange : Type 0
SentInRange =
    (S : Script) (w : BookWords) (log s : ℕ) (r : Record) → IsRecordOf S w log s r →
    IsNumber S.shape log s

-- ---- whether a run is clear

-- what was sent is this number of this log
abbrev pub is_number : ℕ → ℕ → Option Sending → Bool
is_number log s None = false
is_number log s (Some y) = y.log == log && y.number == s

-- a record gives no text for a number, unless its client sent that number in its turn
abbrev pub is_clear_at : Script → BookWords → Record → ℕ → ℕ → Bool
is_clear_at S w r log s =
    not (is_some (text_in (w.pair log s) (opened w log s) r))
    || is_number log s (sent S r.write.turn r.write.client)

-- each record of a run, for each number of each log
unfoldable pub is_clear : Script → BookWords → History → Bool
is_clear S w H =
    list_all
    (λ r. list_all
    (λ log. list_all (is_clear_at S w r log) (range_with_len 0 (turn_count S.shape)))
    (range_with_len 0 S.shape.logs))
    (records (entries S w H))

-- the test tells whether a run is clear
abbrev pub ClearIsTested : Type 0
ClearIsTested =
    (S : Script) (w : BookWords) (H : History) → (is_clear S w H ≡ true) ↔ IsClear S w H

-- ---- what is read where the records lie

-- each write of a run is what a client writes in a turn, which its frame tells
pub record IsWritten (S : Script) (w : BookWords) (r : Record) : Type 0 where
  pub in_run : r.write.turn < turn_count S.shape
  pub written : r.write ≡ write_at S w r.write.turn r.write.client

abbrev pub EachIsWritten : Type 0
EachIsWritten =
    (S : Script) (w : BookWords) (H : History) (r : Record) →
    Contains (records (entries S w H)) r → IsWritten S w r

-- the writes before a mark are in order, and their buckets are those of the table
abbrev pub EpochsOrdered : Type 0
EpochsOrdered =
    (S : Script) (b : WordBook) (H : History) (e : ℕ) →
    AreOrdered S.shape (before (entries S (words_of S.shape b) H) e)

-- the text of least position in the two buckets of a number is the one that is looked up
abbrev pub LayoutGivesLookup : Type 0
LayoutGivesLookup =
    (S : Script) (b : WordBook) (H : History) (e log s : ℕ) →
    let w = words_of S.shape b in
    let R = before (entries S w H) e in
    text_at (w.pair log s) (opened w log s) (layout S.shape R) ≡ lookup S.shape w R log s

-- the writes before a mark of a legal history can be stored: their blocks have the shape's length
abbrev pub EpochsStorable : Type 0
EpochsStorable =
    (S : Script) (b : WordBook) (H : History) (e : ℕ) → IsBook S.shape b → IsLegal S.shape H →
    AllByRecursion (IsStorable S.shape) (before (entries S (words_of S.shape b) H) e)

-- so the bytes of the two buckets of a number give what is looked up too
abbrev pub BytesGiveLookup : Type 0
BytesGiveLookup =
    (S : Script) (b : WordBook) (H : History) (e log s : ℕ) → IsBook S.shape b → IsLegal S.shape H →
    let w = words_of S.shape b in
    let R = before (entries S w H) e in
    let T = layout S.shape R in
    let pair = w.pair log s in
    text_from S.shape pair (opened w log s) (block_at T pair.0) (block_at T pair.1)
    ≡ lookup S.shape w R log s
