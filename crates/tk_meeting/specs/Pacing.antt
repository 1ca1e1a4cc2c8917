-- When clients act, how much is on its way, and in frames of which kinds and lengths, depends on no text and no key.
use Rattle.std.specs.Prelude.{◌≡◌, ℕ, ◌≤◌, ◌<◌, ◌⊎◌, List, ◌++◌, length}
use Rattle.tk_shape.specs.declared.shape.Shape.{Shape}
use Rattle.tk_script.specs.declared.script.Script.{Script}
use Rattle.tk_words.specs.Words.{WordBook, IsBook, shows_vectors}
use Rattle.tk_meeting.specs.Meeting.{Meeting}
use Rattle.tk_meeting.specs.Events.{Event, met}
use Rattle.tk_meeting.specs.OwnBooks.{HaveKeys}
use Rattle.tk_meeting.specs.Laws.{HasWhatWasSaid}
use Rattle.tk_meeting.specs.Hidden.{unsaid, ActsAlike, IsSizedAlike}

-- on each link there are as many frames
pub record IsCountedAlike (j c : ℕ) (m n : Meeting) : Type 0 where
  pub up : length (m.up c j) ≡ length (n.up c j)
  pub down : length (m.down j c) ≡ length (n.down j c)

-- The reads of two books have one form: in format 1 those of all books, else those of two keyed books, and of two
-- drawn ones.
abbrev pub HaveOneForm : Shape → WordBook → WordBook → Type 0
HaveOneForm shape a b = (shape.format ≡ 1) ⊎ (shows_vectors a ≡ shows_vectors b)

-- each client wrote and asked in as many turns, and as much is on its way, in frames of the same kinds and lengths
-- where reads have one form
pub record KeepsPace (shape : Shape) (a b : WordBook) (m n : Meeting) : Type 0 where
  pub acted : (c : ℕ) → c < shape.clients → ActsAlike c m n
  pub counted : (j c : ℕ) → 1 ≤ j → j ≤ shape.servers → c < shape.clients → IsCountedAlike j c m n
  pub sized : HaveOneForm shape a b → (j c : ℕ) → 1 ≤ j → j ≤ shape.servers → c < shape.clients →
      IsSizedAlike j c m n

-- Two groups of one shape in which the same happens but for what is said, whatever their words are, keyed
-- or drawn, and whoever writes and follows which log.
abbrev pub MeetingsKeepPace : Type 0
MeetingsKeepPace =
    (A B : Script) (a b : WordBook) → A.shape ≡ B.shape → IsBook A.shape a → IsBook B.shape b →
    (books other_books : ℕ → WordBook) → HaveKeys A a books → HaveKeys B b other_books →
    (events more : List Event) → HasWhatWasSaid A (met A books (events ++ more)) →
    (other_events rest : List Event) → HasWhatWasSaid B (met B other_books (other_events ++ rest)) →
    unsaid events ≡ unsaid other_events →
    KeepsPace A.shape a b (met A books events) (met B other_books other_events)
