-- What may happen in a group apart, and what it does. Each event hands one packet over: a host's
-- word to its member, or the next frame of a link to its end.
use Rattle.std.specs.Prelude.{ℕ, ◌+◌, nat_lt, nat_le, ◌&&◌, min, Bool, cond, List, [], ◌∷◌, ◌++◌, length}
use Rattle.std.specs.Prelude.{Option, Some, None}
use Rattle.tk_shape.specs.declared.shape.Shape.{Shape}
use Rattle.tk_script.specs.declared.script.Script.{Script}
use Rattle.tk_words.specs.Words.{WordBook}
use Rattle.tk_client.specs.declared.say_error.SayError.{SayError}
use Rattle.tk_client.specs.Saying.{fault_of}
use Rattle.tk_member.specs.declared.word.HostWord.{HostWord}
use Rattle.tk_member.specs.declared.word.HostWord.TheVariants.{Say, Tick, Ahead, Has}
use Rattle.tk_member.specs.declared.fault.Fault.{Fault}
use Rattle.tk_member.specs.Steps.{heard, served}
use Rattle.tk_serve.specs.Seats.{seat_of}
use Rattle.tk_serve.specs.Steps.{step}
use Rattle.tk_meeting.specs.Meeting.{Meeting, Saying, opening, changed, member_went, server_went}

-- A text is said to a client; its clock ticks; so many of its writes go ahead; it is told how many
-- packets of it a server has. A client's next frame comes to a server, or a server's to a client.
pub data Event : Type 0 where
  Said : ℕ → ℕ → List ℕ → Event
  Ticked : ℕ → Event
  WentAhead : ℕ → ℕ → Event
  Greeted : ℕ → ℕ → ℕ → Event
  Up : ℕ → ℕ → Event
  Down : ℕ → ℕ → Event

-- ---- hosts

-- a text that the client may say is noted for the turn that it is to write next
abbrev pub noted : ℕ → Saying → Option SayError → Meeting → Meeting
noted c y (Some error) m = m
noted c y None m =
    let g = (m.members c).written in
    record m { said = changed c (changed g (m.said c g ++ y ∷ []) (m.said c)) m.said }

abbrev pub say_fault : Meeting → ℕ → ℕ → List ℕ → Option SayError
say_fault m c log text =
    let s = (m.members c).client in
    fault_of s.shape s.writing.logs log text

-- a host's word to its member; each client has a book of its own
abbrev pub hears : (ℕ → WordBook) → Meeting → ℕ → HostWord → Meeting
hears b m c word = member_went m c (heard (b c) (m.members c) (Some word))

-- how many packets of a client a server took
abbrev pub taken_of : Meeting → ℕ → ℕ → ℕ
taken_of m c j =
    let s = seat_of (m.seats j) c in
    length s.writes + length s.reads

-- what it is said to have: no more than was sent to it
abbrev pub greeting_of : Meeting → ℕ → ℕ → ℕ → ℕ
greeting_of m c j count = min count (taken_of m c j + length (m.up c j))

-- ---- links

-- the next frame of client c comes to server j
abbrev pub comes_up : Shape → Meeting → ℕ → ℕ → List (List ℕ) → Meeting
comes_up shape m c j [] = m
comes_up shape m c j (frame ∷ frames) =
    let left = record m { up = changed c (changed j frames (m.up c)) m.up } in
    server_went left j (step shape (m.seats j) c frame)

-- the next frame of server j comes to client c
abbrev pub comes_down : (ℕ → WordBook) → Meeting → ℕ → ℕ → List (List ℕ) → Meeting
comes_down b m j c [] = m
comes_down b m j c (frame ∷ frames) =
    let left = record m { down = changed j (changed c frames (m.down j)) m.down } in
    member_went left c (served (b c) (m.members c) j frame)

-- ---- events

-- a member that has ended takes nothing
abbrev pub unless_ended : Option Fault → Meeting → Meeting → Meeting
unless_ended None m after = after
unless_ended (Some fault) m after = m

abbrev pub is_client : Shape → ℕ → Bool
is_client shape c = nat_lt c shape.clients

abbrev pub is_server : Shape → ℕ → Bool
is_server shape j = nat_lt 0 j && nat_le j shape.servers

-- what an event of a client does, where it is one
abbrev pub client_does : Shape → Meeting → ℕ → Meeting → Meeting
client_does shape m c after = cond (is_client shape c) (unless_ended (m.ended c) m after) m

-- what happens where an event comes; one of a client or a server that there is not does nothing
unfoldable pub happens : Shape → (ℕ → WordBook) → Meeting → Event → Meeting
happens shape b m (Said c log text) =
    client_does shape m c
    (hears b (noted c (record { log = log; text = text }) (say_fault m c log text) m) c (Say log text))
happens shape b m (Ticked c) = client_does shape m c (hears b m c Tick)
happens shape b m (WentAhead c turns) = client_does shape m c (hears b m c (Ahead turns))
happens shape b m (Greeted c j count) =
    cond (is_server shape j)
    (client_does shape m c (hears b m c (Has (greeting_of m c j count)))) m
happens shape b m (Up c j) =
    cond (is_client shape c && is_server shape j) (comes_up shape m c j (m.up c j)) m
happens shape b m (Down j c) =
    cond (is_server shape j) (client_does shape m c (comes_down b m j c (m.down j c))) m

-- one after the other
unfoldable pub after_events : Shape → (ℕ → WordBook) → Meeting → List Event → Meeting
after_events shape b m [] = m
after_events shape b m (x ∷ xs) = after_events shape b (happens shape b m x) xs

-- a group after these events, from its opening on
abbrev pub met : Script → (ℕ → WordBook) → List Event → Meeting
met S b events = after_events S.shape b (opening S) events
