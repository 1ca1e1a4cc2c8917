-- What each server but one sees of two groups apart that say different things.
use Rattle.std.specs.Prelude.{◌≡◌, ◌≢◌, ℕ, ◌≤◌, ◌<◌, Bool, true}
use Rattle.std.specs.Prelude.{false, not, List, ◌++◌, length, map, filter, slice_index}
use Rattle.tk_shape.specs.declared.shape.Shape.{Shape}
use Rattle.tk_schedule.specs.Schedule.{serial_history}
use Rattle.tk_script.specs.declared.script.Script.{Script}
use Rattle.tk_words.specs.Words.{WordBook, drawn}
use Rattle.tk_privacy.specs.Laws.{AreMirrored}
use Rattle.tk_privacy.specs.Privacy.{mirror}
use Rattle.tk_serve.specs.Seats.{seat_of}
use Rattle.tk_meeting.specs.Meeting.{Meeting}
use Rattle.tk_meeting.specs.Events.{Event, Said, Ticked, WentAhead, Greeted, Up, Down, met}
use Rattle.tk_meeting.specs.OwnBooks.{HaveKeys}
use Rattle.tk_meeting.specs.Laws.{HasWhatWasSaid}

-- ---- events without what is said

abbrev pub is_said : Event → Bool
is_said (Said c log text) = true
is_said (Ticked c) = false
is_said (WentAhead c turns) = false
is_said (Greeted c j count) = false
is_said (Up c j) = false
is_said (Down j c) = false

abbrev pub unsaid : List Event → List Event
unsaid events = filter (λ x. not (is_said x)) events

-- ---- what is seen

-- what server j sees of client c: what it took of it, what is on its way to it, and what it sends back
pub record SeesAlike (j c : ℕ) (m n : Meeting) : Type 0 where
  pub came : seat_of (m.seats j) c ≡ seat_of (n.seats j) c
  pub coming : m.up c j ≡ n.up c j
  pub going : m.down j c ≡ n.down j c

-- the kind of a frame, and how many bytes it has: what one sees who cannot open it
abbrev pub outline : List ℕ → ℕ × ℕ
outline frame = (slice_index frame 0, length frame)

-- on each link there are frames of the same kinds and lengths
pub record IsSizedAlike (j c : ℕ) (m n : Meeting) : Type 0 where
  pub up : map outline (m.up c j) ≡ map outline (n.up c j)
  pub down : map outline (m.down j c) ≡ map outline (n.down j c)

-- a client wrote and asked in as many turns
pub record ActsAlike (c : ℕ) (m n : Meeting) : Type 0 where
  pub written : (m.members c).written ≡ (n.members c).written
  pub asked : (m.members c).asked ≡ (n.members c).asked

-- Each server but the hidden one sees the same; when a client writes and asks is the same, and so is
-- what is on each link, the hidden server's too, but for its bytes.
pub record LooksAlike (shape : Shape) (h : ℕ) (m n : Meeting) : Type 0 where
  pub seen : (j c : ℕ) → 1 ≤ j → j ≤ shape.servers → j ≢ h → c < shape.clients → SeesAlike j c m n
  pub acted : (c : ℕ) → c < shape.clients → ActsAlike c m n
  pub sized : (j c : ℕ) → 1 ≤ j → j ≤ shape.servers → c < shape.clients → IsSizedAlike j c m n

-- Two groups in which the same happens but for what is said, where the second has the book over the
-- mirrored tape: at any time they look alike. So all that a server sees comes in the same order too.
abbrev pub MeetingsLookAlike : Type 0
MeetingsLookAlike =
    (A B : Script) (h : ℕ) (u : List ℕ) → let H = serial_history A.shape in
    AreMirrored A B H h u →
    (books other_books : ℕ → WordBook) → HaveKeys A (drawn u) books →
    HaveKeys B (drawn (mirror A B H h u)) other_books →
    (events more : List Event) → HasWhatWasSaid A (met A books (events ++ more)) →
    (other_events rest : List Event) → HasWhatWasSaid B (met B other_books (other_events ++ rest)) →
    unsaid events ≡ unsaid other_events →
    LooksAlike A.shape h (met A books events) (met B other_books other_events)
