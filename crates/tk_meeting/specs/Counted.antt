-- What all servers but one see together of a group apart, over all tapes.
use Rattle.std.specs.Prelude.{◌≡◌, ℕ, Bool, List, ◌++◌, length, map}
use Rattle.std.specs.List.{range_with_len}
use Rattle.tk_shape.specs.declared.shape.Shape.{Shape}
use Rattle.tk_shape.specs.Lengths.{tape_len}
use Rattle.tk_schedule.specs.Schedule.{serial_history}
use Rattle.tk_script.specs.declared.script.Script.{Script}
use Rattle.tk_words.specs.Words.{WordBook, drawn}
use Rattle.tk_privacy.specs.Counts.{count_tapes, all_but}
use Rattle.tk_privacy.specs.Laws.{AreCompared}
use Rattle.tk_serve.specs.Seats.{Seat, seat_of}
use Rattle.tk_meeting.specs.Meeting.{Meeting}
use Rattle.tk_meeting.specs.Events.{Event, met}
use Rattle.tk_meeting.specs.OwnBooks.{HaveKeys}
use Rattle.tk_meeting.specs.Laws.{HasWhatWasSaid}
use Rattle.tk_meeting.specs.Hidden.{unsaid}

-- what a server sees of a client: what it took of it, what is on its way to it, and what it sends
-- back
pub record SeenLink : Type 0 where
  pub came : Seat
  pub coming : List (List ℕ)
  pub going : List (List ℕ)

abbrev pub link_seen : Meeting → ℕ → ℕ → SeenLink
link_seen m j c =
    record { came = seat_of (m.seats j) c; coming = m.up c j; going = m.down j c }

-- each server but h, of each client
abbrev pub all_seen : Shape → ℕ → Meeting → List (List SeenLink)
all_seen shape h m = map (λ j. map (link_seen m j) (range_with_len 0 shape.clients)) (all_but shape h)

-- each tape's books have the keys that it draws
abbrev pub AreDrawn : Script → (List ℕ → ℕ → WordBook) → Type 0
AreDrawn S books = (u : List ℕ) → length u ≡ tape_len S.shape → HaveKeys S (drawn u) (books u)

-- over each tape the events say what the script has
abbrev pub TellsOver : Script → (List ℕ → ℕ → WordBook) → List Event → Type 0
TellsOver S books events =
    (u : List ℕ) → length u ≡ tape_len S.shape → HasWhatWasSaid S (met S (books u) events)

-- Two groups in which the same happens but for what is said: whatever all servers but the hidden one
-- look for at any time in what they see together, they find it over as many tapes of the one as of
-- the other.
abbrev pub MeetingsAsOften : Type 0
MeetingsAsOften =
    (A B : Script) (h : ℕ) → AreCompared A B (serial_history A.shape) h →
    (books other_books : List ℕ → ℕ → WordBook) → AreDrawn A books → AreDrawn B other_books →
    (events more : List Event) → TellsOver A books (events ++ more) →
    (other_events rest : List Event) → TellsOver B other_books (other_events ++ rest) →
    unsaid events ≡ unsaid other_events → (test : List (List SeenLink) → Bool) →
    count_tapes (tape_len A.shape) (λ u. test (all_seen A.shape h (met A (books u) events)))
    ≡ count_tapes (tape_len B.shape) (λ v. test (all_seen B.shape h (met B (other_books v) other_events)))
