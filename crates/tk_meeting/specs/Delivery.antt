-- What a group apart delivers.
use Rattle.std.specs.Prelude.{◌≡◌, ℕ, ◌<◌, List, ◌++◌, slice_get, Some, Contains}
use Rattle.tk_shape.specs.Lengths.{turn_count}
use Rattle.tk_schedule.specs.Schedule.{serial_history}
use Rattle.tk_script.specs.declared.script.Script.{Script}
use Rattle.tk_words.specs.Words.{WordBook, IsBook, words_of}
use Rattle.tk_frames.specs.Order.{Record}
use Rattle.tk_table.specs.Table.{retained}
use Rattle.tk_client.specs.declared.got.Got.TheVariants.{Absent, Text}
use Rattle.tk_report.specs.Delivered.{IsClear}
use Rattle.tk_report.specs.PassingOver.{IsRecordOf, IsRightlyPassed, Reads}
use Rattle.tk_report.specs.Report.{read_over, got_of}
use Rattle.tk_meeting.specs.Meeting.{Meeting}
use Rattle.tk_meeting.specs.Events.{Event, met}
use Rattle.tk_meeting.specs.OwnBooks.{HaveKeys}
use Rattle.tk_meeting.specs.Laws.{HasWhatWasSaid, HasToldOf}

-- a text is that of number s of a log, which a client read in some turn, and whose record was retained in
-- the epoch of that read
pub record IsAsWritten (S : Script) (b : WordBook) (c log s : ℕ) (text : List ℕ) : Type 0 where
  pub turn : ℕ
  pub in_run : turn < turn_count S.shape
  pub reads : Reads S (words_of S.shape b) (serial_history S.shape) c turn log s text
  pub found : Record
  pub is_retained : Contains
      (retained S.shape (read_over S (words_of S.shape b) (serial_history S.shape) turn c)) found
  pub of_number : IsRecordOf S (words_of S.shape b) log s found
  pub written : text ≡ of_number.sending.text

-- what a member told of a log: in a clear run each text as it was written; and each number that it
-- told to be absent was rightly passed over
pub record HasDelivered (S : Script) (b : WordBook) (m : Meeting) (c log : ℕ) : Type 0 where
  pub told : HasToldOf S b m c log
  pub texts : IsClear S (words_of S.shape b) (serial_history S.shape) → (s : ℕ) (text : List ℕ) →
      slice_get told.got s ≡ Some (Text text) → IsAsWritten S b c log s text
  pub absent : (s : ℕ) → slice_get told.got s ≡ Some Absent →
      IsRightlyPassed S (words_of S.shape b) (serial_history S.shape) c log
      (got_of S (words_of S.shape b) (serial_history S.shape) c log) s

-- in a clear run each member tells each text as it was written, and what it passed over was rightly passed
-- over
abbrev pub MeetingsDeliver : Type 0
MeetingsDeliver =
    (S : Script) (b : WordBook) (books : ℕ → WordBook) (events more : List Event) →
    IsBook S.shape b → HaveKeys S b books → HasWhatWasSaid S (met S books (events ++ more)) →
    (c log : ℕ) → c < S.shape.clients → log < S.shape.logs →
    HasDelivered S b (met S books events) c log
