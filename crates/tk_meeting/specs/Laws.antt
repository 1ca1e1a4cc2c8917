-- What a group apart does is what the serial run does.
use Rattle.std.specs.Prelude.{◌≡◌, ℕ, ◌+◌, ◌-◌, ◌<◌, ◌≤◌, ◌==◌, Bool, true, false, cond, not, ◌&&◌}
use Rattle.std.specs.Prelude.{List, [], ◌++◌, length, map, filter, flat_map, slice_index, None}
use Rattle.std.specs.List.{range_with_len, list_any}
use Rattle.std.specs.Option.{is_none}
use Rattle.tk_shape.specs.declared.shape.Shape.{Shape}
use Rattle.tk_shape.specs.Lengths.{turn_count}
use Rattle.tk_schedule.specs.Schedule.{serial_history}
use Rattle.tk_script.specs.declared.script.Script.{Script}
use Rattle.tk_script.specs.declared.say.Say.{Say}
use Rattle.tk_script.specs.Sent.{writer_of, unsent_count}
use Rattle.tk_words.specs.Words.{WordBook, IsBook, words_of}
use Rattle.tk_frames.specs.Fields.{number_at}
use Rattle.tk_client.specs.declared.got.Got.{Got}
use Rattle.tk_packets.specs.Packets.{PacketView}
use Rattle.tk_report.specs.Queues.{says_in}
use Rattle.tk_report.specs.Entries.{write_at}
use Rattle.tk_report.specs.Exchange.{read_at}
use Rattle.tk_report.specs.Report.{reader_before, logs, got_of}
use Rattle.tk_member.specs.News.{news, news_from}
use Rattle.tk_member.specs.Members.{is_over}
use Rattle.tk_serve.specs.Seats.{seat_of}
use Rattle.tk_meeting.specs.Meeting.{Meeting, Saying}
use Rattle.tk_meeting.specs.Events.{Event, met}
use Rattle.tk_meeting.specs.OwnBooks.{HaveKeys}

-- ---- the script

abbrev pub saying_of : Say → Saying
saying_of y = record { log = y.log; text = y.text }

-- the texts of a client that a script has in turn g
abbrev pub sayings : Script → ℕ → ℕ → List Saying
sayings S c g = map saying_of (filter (λ y. writer_of S y.log == c) (says_in S g))

-- the script has what was said: each text in the turn that its writer wrote next
abbrev pub HasWhatWasSaid : Script → Meeting → Type 0
HasWhatWasSaid S m =
    (c g : ℕ) → c < S.shape.clients → g < turn_count S.shape → m.said c g ≡ sayings S c g

-- ---- fronts of the serial run

-- what server j has of client c is a front of what the serial run has it see of that client
pub record HasFront (S : Script) (b : WordBook) (m : Meeting) (c j : ℕ) : Type 0 where
  pub written : ℕ
  pub asked : ℕ
  pub written_in : written ≤ turn_count S.shape
  pub asked_in : asked ≤ turn_count S.shape
  pub writes : (seat_of (m.seats j) c).writes
      ≡ map (λ g. write_at S (words_of S.shape b) g c) (range_with_len 0 written)
  pub reads : (seat_of (m.seats j) c).reads
      ≡ map (λ g. read_at S b (serial_history S.shape) g c j) (range_with_len 0 asked)

-- what client c's reads of the first turns give in the serial run, as its host is told it
abbrev pub news_before : Script → WordBook → ℕ → ℕ → List PacketView
news_before S b c turns =
    let w = words_of S.shape b in
    let H = serial_history S.shape in
    flat_map (λ g. news S.shape (reader_before S w H c g) (reader_before S w H c (g + 1)))
    (range_with_len 0 turns)

-- a refused text is told by the letter r; any other packet tells what a number of a log gave
abbrev pub tells_read : PacketView → Bool
tells_read p = not (slice_index p.bytes 0 == 0x72)

abbrev pub tells_of : ℕ → PacketView → Bool
tells_of log p = tells_read p && number_at 1 p.bytes == log

-- what client c told its host of its reads is what those of the first turns give
pub record HasTold (S : Script) (b : WordBook) (m : Meeting) (c : ℕ) : Type 0 where
  pub turns : ℕ
  pub settled : turns ≡ cond (is_none (m.members c).client.read) (m.members c).asked ((m.members c).asked - 1)
  pub within : turns ≤ turn_count S.shape
  pub told : filter tells_read (m.told c) ≡ news_before S b c turns

-- and of each log it told a front of what the report says that the log gave to it
pub record HasToldOf (S : Script) (b : WordBook) (m : Meeting) (c log : ℕ) : Type 0 where
  pub got : List Got
  pub rest : List Got
  pub front : got_of S (words_of S.shape b) (serial_history S.shape) c log ≡ got ++ rest
  pub told : filter (tells_of log) (m.told c) ≡ news_from log 0 got

-- ---- refusals

-- whether a frame tells that another was refused
abbrev pub is_refusal : List ℕ → Bool
is_refusal frame = slice_index frame 0 == 0x0c

-- no member has ended, and no server tells that it refused a frame
pub record HasNoFaults (shape : Shape) (m : Meeting) : Type 0 where
  pub members : (c : ℕ) → c < shape.clients → m.ended c ≡ None
  pub servers : (j c : ℕ) → 1 ≤ j → j ≤ shape.servers → c < shape.clients →
      list_any is_refusal (m.down j c) ≡ false

-- ---- the end

-- for each member enough ticks came, be it that some still wait, and no frame is on its way
pub record IsAllHanded (shape : Shape) (m : Meeting) : Type 0 where
  pub ticked : (c : ℕ) → c < shape.clients →
      turn_count shape ≤ (m.members c).written + (m.members c).ticks
  pub none_up : (c j : ℕ) → c < shape.clients → 1 ≤ j → j ≤ shape.servers → m.up c j ≡ []
  pub none_down : (j c : ℕ) → 1 ≤ j → j ≤ shape.servers → c < shape.clients → m.down j c ≡ []

-- client c has told its host all that its reads give, and knows of each log what the report says
pub record HasToldAll (S : Script) (b : WordBook) (m : Meeting) (c : ℕ) : Type 0 where
  pub told : filter tells_read (m.told c) ≡ news_before S b c (turn_count S.shape)
  pub each_log : (log : ℕ) → log < S.shape.logs → filter (tells_of log) (m.told c)
      ≡ news_from log 0 (got_of S (words_of S.shape b) (serial_history S.shape) c log)
  pub logs : (m.members c).client.reader.follows
      ≡ logs S (words_of S.shape b) (serial_history S.shape) c
  pub unsent : length (m.members c).client.writing.waiting
      ≡ unsent_count S c + length (m.said c (turn_count S.shape))

-- ---- the law

-- what stands of a meeting whose texts a script has
pub record IsSerial (S : Script) (b : WordBook) (m : Meeting) : Type 0 where
  pub fronts : (c j : ℕ) → c < S.shape.clients → 1 ≤ j → j ≤ S.shape.servers →
      HasFront S b m c j
  pub told : (c : ℕ) → c < S.shape.clients → HasTold S b m c
  pub told_of : (c log : ℕ) → c < S.shape.clients → log < S.shape.logs → HasToldOf S b m c log
  pub quiet : HasNoFaults S.shape m
  pub over : (c : ℕ) → c < S.shape.clients → is_over (m.members c) ≡ true → HasToldAll S b m c
  -- a group is never stuck
  pub whole : IsAllHanded S.shape m → (c : ℕ) → c < S.shape.clients →
      (is_over (m.members c) ≡ true) × HasToldAll S b m c

-- However packets are delivered, a group apart does at any time what the serial run does. The script
-- has the texts of all events, also of those that are still to come.
abbrev pub MeetingsAreSerial : Type 0
MeetingsAreSerial =
    (S : Script) (b : WordBook) (books : ℕ → WordBook) (events more : List Event) →
    IsBook S.shape b → HaveKeys S b books → HasWhatWasSaid S (met S books (events ++ more)) →
    IsSerial S b (met S books events)
