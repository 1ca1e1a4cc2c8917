-- What a run shows up to a turn depends on the turns up to it alone.
use Rattle.std.specs.Prelude.{◌≡◌, ℕ, ◌+◌, ◌<◌, ◌≤◌, true, false, ◌++◌, length}
use Rattle.tk_shape.specs.declared.shape.Shape.{Shape}
use Rattle.tk_shape.specs.Lengths.{turn_count}
use Rattle.tk_schedule.specs.declared.history.History.{History}
use Rattle.tk_schedule.specs.Schedule.{IsLegal, is_closing, phases_over, order_at, epoch_at}
use Rattle.tk_script.specs.declared.script.Script.{Script}
use Rattle.tk_words.specs.Words.{WordBook, BookWords, words_of}
use Rattle.tk_frames.specs.declared.write_frame.WriteFrame.{WriteFrame}
use Rattle.tk_frames.specs.Order.{has_mark, before}
use Rattle.tk_report.specs.Entries.{write_at, entries_before, entries_at, entries}
use Rattle.tk_report.specs.Report.{read_over, reader_before, target_at, answer_for}
use Rattle.tk_report.specs.Exchange.{read_pair, read_at, read_seen, read_answered, frames_before}

-- the first n turns of two histories have the same orders
abbrev pub SameOrders : History → History → ℕ → Type 0
SameOrders H K n = (k : ℕ) → k < n → order_at H k ≡ order_at K k

-- and a client reads the same epochs in them
abbrev pub SameEpochs : History → History → ℕ → ℕ → Type 0
SameEpochs H K c n = (k : ℕ) → k < n → epoch_at H k c ≡ epoch_at K k c

-- ---- orders

-- the turns before a turn give the entries before it
abbrev pub EntriesAgree : Type 0
EntriesAgree =
    (write : ℕ → ℕ → WriteFrame) (H K : History) (g : ℕ) → SameOrders H K g →
    entries_before write H g ≡ entries_before write K g

-- and with its own order those of the turn
abbrev pub TurnEntriesAgree : Type 0
TurnEntriesAgree =
    (write : ℕ → ℕ → WriteFrame) (H K : History) (g : ℕ) → SameOrders H K (g + 1) →
    entries_at write H g ≡ entries_at write K g

-- what stands before a mark in a run's order stands before it once the turn that makes it is over
abbrev pub MarkedSoFar : Type 0
MarkedSoFar =
    (S : Script) (w : BookWords) (H : History) (n e : ℕ) → IsLegal S.shape H →
    n ≤ turn_count S.shape → e ≤ phases_over S.shape n →
    before (entries S w H) e ≡ before (entries_before (write_at S w) H n) e

-- and so before a mark that stands in the entries of the first turns, be the history legal or not
abbrev pub StandingMarks : Type 0
StandingMarks =
    (write : ℕ → ℕ → WriteFrame) (H : History) (g n e : ℕ) → g ≤ n →
    has_mark e (entries_before write H g) ≡ true →
    before (entries_before write H n) e ≡ before (entries_before write H g) e

-- the marks that stand before turn n of a legal history: one for each phase that is over
pub record MarksStand (shape : Shape) (write : ℕ → ℕ → WriteFrame) (H : History) (n e : ℕ)
    : Type 0 where
  pub stand : 0 < e → e ≤ phases_over shape n → has_mark e (entries_before write H n) ≡ true
  pub none_ahead : phases_over shape n < e → has_mark e (entries_before write H n) ≡ false
  pub none_first : has_mark 0 (entries_before write H n) ≡ false

abbrev pub PhasesMarked : Type 0
PhasesMarked =
    (shape : Shape) (write : ℕ → ℕ → WriteFrame) (H : History) (n e : ℕ) → IsLegal shape H →
    n ≤ turn_count shape → MarksStand shape write H n e

-- no epoch is read before the turn that makes it
abbrev pub EpochsMade : Type 0
EpochsMade =
    (shape : Shape) (H : History) (g c : ℕ) → IsLegal shape H → g < turn_count shape →
    epoch_at H g c ≤ phases_over shape (g + 1)

-- histories with one front agree in it, whatever follows
abbrev pub FrontsAgree : Type 0
FrontsAgree =
    (front more others : History) (n : ℕ) → n ≤ length front →
    SameOrders (front ++ more) (front ++ others) n
    × ((c : ℕ) → SameEpochs (front ++ more) (front ++ others) c n)

-- ---- a client's read

-- Up to turn g two histories are the same for a client: it reads the same epochs, the orders before
-- turn g are the same, and so are those of the first n turns, after which the epoch of turn g is
-- made.
pub record AreAlike (shape : Shape) (H K : History) (c g n : ℕ) : Type 0 where
  pub behind : g ≤ n
  pub within : n ≤ turn_count shape
  pub orders : SameOrders H K n
  pub epochs : SameEpochs H K c (g + 1)
  pub made : epoch_at H g c ≤ phases_over shape n

-- all that a client's read in a turn is made of, and what it gives
pub record ReadsAgree (S : Script) (w : BookWords) (H K : History) (c g : ℕ) : Type 0 where
  pub over : read_over S w H g c ≡ read_over S w K g c
  pub reader : reader_before S w H c g ≡ reader_before S w K c g
  pub target : target_at S w H g c ≡ target_at S w K g c
  pub pair : read_pair S w H g c ≡ read_pair S w K g c
  pub answer : answer_for S w H g c (target_at S w H g c)
      ≡ answer_for S w K g c (target_at S w K g c)

abbrev pub AlikeReadsAgree : Type 0
AlikeReadsAgree =
    (S : Script) (w : BookWords) (H K : History) (c g n : ℕ) → IsLegal S.shape H →
    AreAlike S.shape H K c g n → ReadsAgree S w H K c g

-- and the frames of the read, with the reply and without it
pub record FramesAgree (S : Script) (b : WordBook) (H K : History) (c g j : ℕ) : Type 0 where
  pub read : read_at S b H g c j ≡ read_at S b K g c j
  pub seen : read_seen S b H j g c ≡ read_seen S b K j g c
  pub answered : read_answered S b H j g c ≡ read_answered S b K j g c

abbrev pub AlikeFramesAgree : Type 0
AlikeFramesAgree =
    (S : Script) (b : WordBook) (H K : History) (c g n j : ℕ) → IsLegal S.shape H →
    AreAlike S.shape H K c g n → FramesAgree S b H K c g j

-- a reader before a turn
abbrev pub ReadersAgree : Type 0
ReadersAgree =
    (S : Script) (w : BookWords) (H K : History) (c g : ℕ) → IsLegal S.shape H →
    g ≤ turn_count S.shape → SameOrders H K g → SameEpochs H K c g →
    reader_before S w H c g ≡ reader_before S w K c g

-- histories are alike in a turn with whose order they agree, in whichever epoch it reads
abbrev pub AlikeAfterTurn : Type 0
AlikeAfterTurn =
    (shape : Shape) (H K : History) (c g : ℕ) → IsLegal shape H → g < turn_count shape →
    SameOrders H K (g + 1) → SameEpochs H K c (g + 1) → AreAlike shape H K c g (g + 1)

-- in a turn that closes no phase its order doesn't matter
abbrev pub AlikeWhereOpen : Type 0
AlikeWhereOpen =
    (shape : Shape) (H K : History) (c g : ℕ) → IsLegal shape H → g < turn_count shape →
    is_closing shape g ≡ false →
    SameOrders H K g → SameEpochs H K c (g + 1) → AreAlike shape H K c g g

-- nor in one that reads the newest epoch before it
abbrev pub AlikeWhereOld : Type 0
AlikeWhereOld =
    (shape : Shape) (H K : History) (c g : ℕ) → g < turn_count shape →
    epoch_at H g c ≤ phases_over shape g →
    SameOrders H K g → SameEpochs H K c (g + 1) → AreAlike shape H K c g g

-- ---- what a server sees

-- the frames of the turns before a turn, with the replies and without them
pub record ViewsAgree (S : Script) (b : WordBook) (H K : History) (j g : ℕ) : Type 0 where
  pub seen : frames_before S.shape H (write_at S (words_of S.shape b)) (read_seen S b H j) g
      ≡ frames_before S.shape K (write_at S (words_of S.shape b)) (read_seen S b K j) g
  pub answered : frames_before S.shape H (write_at S (words_of S.shape b)) (read_answered S b H j) g
      ≡ frames_before S.shape K (write_at S (words_of S.shape b)) (read_answered S b K j) g

abbrev pub AlikeViewsAgree : Type 0
AlikeViewsAgree =
    (S : Script) (b : WordBook) (H K : History) (j g : ℕ) → IsLegal S.shape H →
    g ≤ turn_count S.shape → SameOrders H K g →
    ((c : ℕ) → c < S.shape.clients → SameEpochs H K c g) → ViewsAgree S b H K j g
