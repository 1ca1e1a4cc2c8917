-- A group apart whose programs may be begun again. Links go by number: an end takes the frame behind those that it has.
use Rattle.std.specs.Prelude.{ℕ, ◌+◌, List, [], ◌∷◌, ◌++◌, length, slice_get, Option, Some, None, Result, Ok, Err}
use Rattle.tk_shape.specs.declared.shape.Shape.{Shape}
use Rattle.tk_script.specs.declared.script.Script.{Script}
use Rattle.tk_words.specs.Words.{WordBook}
use Rattle.tk_packets.specs.Packets.{PacketView, packet}
use Rattle.tk_member.specs.declared.fault.Fault.{Fault}
use Rattle.tk_member.specs.Acting.{ActedMember, unmoved, behind}
use Rattle.tk_member.specs.Steps as member
use Rattle.tk_member.specs.Courses.{after_packets}
use Rattle.tk_serve.specs.Seats.{Seat, empty_seats, seat_of}
use Rattle.tk_serve.specs.Steps as server
use Rattle.tk_serve.specs.Told.{told}
use Rattle.tk_meeting.specs.Meeting.{changed, for_peer, frames_for}
use Rattle.tk_meeting.specs.Programs.{first_member}

-- Of each client its journal, which is all that its member took, and how the member stands, with all that it put since
-- it was last begun. Of each server what it took since then.
pub record Lives : Type 0 where
  pub journals : ℕ → List PacketView
  pub members : ℕ → ActedMember
  pub seats : ℕ → List Seat

abbrev pub at_first : Script → Lives
at_first S =
    record {
      journals = λ c. [];
      members = λ c. unmoved (first_member S c);
      seats = λ j. empty_seats S.shape;
    }

-- A client's host says a word to it. A client's next frame comes to a server, or a server's to a client. A member is
-- begun again, with its journal; or a server, with none.
pub data Happening : Type 0 where
  Hears : ℕ → List ℕ → Happening
  GoesUp : ℕ → ℕ → Happening
  GoesDown : ℕ → ℕ → Happening
  MemberAgain : ℕ → Happening
  ServerAgain : ℕ → Happening

-- ---- members

-- the packet is in its journal before it takes it; one that ends it changes nothing more
abbrev pub taken_so : Lives → ℕ → PacketView → Result ActedMember Fault → Lives
taken_so v c p (Ok t) =
    record v {
      journals = changed c (v.journals c ++ p ∷ []) v.journals;
      members = changed c (behind (v.members c).packets t) v.members;
    }
taken_so v c p (Err fault) = record v { journals = changed c (v.journals c ++ p ∷ []) v.journals }

abbrev pub takes : (ℕ → WordBook) → Lives → ℕ → PacketView → Lives
takes b v c p = taken_so v c p (member.step (b c) (v.members c).member p)

abbrev pub begun_so : Lives → ℕ → Option ActedMember → Lives
begun_so v c None = v
begun_so v c (Some t) = record v { members = changed c t v.members }

-- ---- links

-- a server takes the frame of a client behind those that it took of it
abbrev pub comes_up : Shape → Lives → ℕ → ℕ → Option (List ℕ) → Lives
comes_up shape v c j None = v
comes_up shape v c j (Some frame) =
    record v { seats = changed j (server.step shape (v.seats j) c frame).seats v.seats }

abbrev pub up_next : Lives → ℕ → ℕ → Option (List ℕ)
up_next v c j =
    let s = seat_of (v.seats j) c in
    slice_get (frames_for j (v.members c).packets) (length s.writes + length s.reads)

-- a client takes the frame of a server behind those that it has of it
abbrev pub comes_down : (ℕ → WordBook) → Lives → ℕ → ℕ → Option (List ℕ) → Lives
comes_down b v j c None = v
comes_down b v j c (Some frame) = takes b v c (packet j frame)

abbrev pub down_next : Shape → Lives → ℕ → ℕ → Option (List ℕ)
down_next shape v j c = slice_get (told shape (v.seats j) c) (length (for_peer j (v.journals c)))

-- ---- what happens

unfoldable pub lives_on : Script → (ℕ → WordBook) → Lives → Happening → Lives
lives_on S b v (Hears c word) = takes b v c (packet 0 word)
lives_on S b v (GoesUp c j) = comes_up S.shape v c j (up_next v c j)
lives_on S b v (GoesDown j c) = comes_down b v j c (down_next S.shape v j c)
lives_on S b v (MemberAgain c) = begun_so v c (after_packets (b c) (first_member S c) (v.journals c))
lives_on S b v (ServerAgain j) = record v { seats = changed j (empty_seats S.shape) v.seats }

unfoldable pub lives_after : Script → (ℕ → WordBook) → Lives → List Happening → Lives
lives_after S b v [] = v
lives_after S b v (x ∷ xs) = lives_after S b (lives_on S b v x) xs
