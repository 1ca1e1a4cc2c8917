-- The programs of a group apart, by what passed over the line of each, and what switches may carry between them.
use Rattle.std.specs.Prelude.{◌≡◌, ℕ, ◌+◌, ◌≤◌, ◌<◌, ◌⊎◌, ◌==◌, cond, List, [], ◌∷◌, ◌++◌, length, take}
use Rattle.std.specs.Prelude.{Option, Some, Result}
use Rattle.tk_shape.specs.declared.shape.Shape.{Shape}
use Rattle.tk_script.specs.declared.script.Script.{Script}
use Rattle.tk_words.specs.Words.{WordBook}
use Rattle.tk_packets.specs.Packets.{PacketView}
use Rattle.tk_packets.specs.Lines.{Passing, Took, Put, Gone, taken}
use Rattle.tk_serve.specs.Seats.{Seat, empty_seats, seat_of}
use Rattle.tk_serve.specs.Steps.{seats_after}
use Rattle.tk_serve.specs.Setup.{setup}
use Rattle.tk_serve.specs.Courses.{Told, seats_next, after_setup, RanDone, RanFront}
use Rattle.tk_serve.specs.Courses as serving
use Rattle.tk_member.specs.declared.fault.Fault.{Fault}
use Rattle.tk_member.specs.declared.word.HostWord.{HostWord}
use Rattle.tk_member.specs.declared.word.HostWord.TheVariants.{Say, Tick, Ahead, Has}
use Rattle.tk_member.specs.Words.{word_in}
use Rattle.tk_member.specs.Members.{MemberState}
use Rattle.tk_member.specs.Acting.{ActedMember}
use Rattle.tk_member.specs.Courses.{after_packets, member_next, TookPart}
use Rattle.tk_member.specs.Courses as taking
use Rattle.tk_meeting.specs.Meeting.{Meeting, opening, for_peer, frames_for}
use Rattle.tk_meeting.specs.Events.{Event, met}

-- ---- what programs did, one after the other

-- client c's member, or server j, took a packet or put one
pub data Doing : Type 0 where
  OfClient : ℕ → Passing → Doing
  OfServer : ℕ → Passing → Doing

-- what passed over the line of one of them
abbrev pub of_client : ℕ → List Doing → List Passing
of_client c [] = []
of_client c (OfClient k x ∷ ds) = cond (c == k) (x ∷ of_client c ds) (of_client c ds)
of_client c (OfServer k x ∷ ds) = of_client c ds

abbrev pub of_server : ℕ → List Doing → List Passing
of_server j [] = []
of_server j (OfClient k x ∷ ds) = of_server j ds
of_server j (OfServer k x ∷ ds) = cond (j == k) (x ∷ of_server j ds) (of_server j ds)

-- the packets that were taken, and those that were put
abbrev pub taken_in : List Passing → List PacketView
taken_in [] = []
taken_in (Took p ∷ xs) = p ∷ taken_in xs
taken_in (Put p ∷ xs) = taken_in xs

abbrev pub put_in : List Passing → List PacketView
put_in [] = []
put_in (Took p ∷ xs) = put_in xs
put_in (Put p ∷ xs) = p ∷ put_in xs

-- ---- that they are the programs

-- a member that took nothing
abbrev pub first_member : Script → ℕ → MemberState
first_member S c = (opening S).members c

-- What passed over a line is a front of what its packets make a member send, for each before the next, and of a
-- packet behind them: `take_part` ensures that.
pub record ActsAsMember (S : Script) (b : WordBook) (c : ℕ) (past : List Passing) : Type 0 where
  pub packets : List PacketView
  pub turned : ActedMember
  pub stands : after_packets b (first_member S c) packets ≡ Some turned
  pub last : Option PacketView
  pub count : ℕ
  pub order : past ≡ take count (taking.exchanged b (first_member S c) packets ++ taken last)

-- or a server tell, which `serve` ensures
pub record ActsAsServer (shape : Shape) (past : List Passing) : Type 0 where
  pub packets : List PacketView
  pub last : Option PacketView
  pub count : ℕ
  pub order : past ≡ take count (serving.exchanged shape packets ++ taken last)

-- ---- that the clauses of `take_part` and `serve` say so, of a line that tells what passes, and of which nothing had

-- the first packet set a member up, which then acted
pub record HasActed (S : Script) (b : WordBook) (c : ℕ) (first : PacketView) (past : Option (List Passing)) : Type 0
  where
    pub passed : List Passing
    pub all : past ≡ Some (Took first ∷ passed)
    pub acts : ActsAsMember S b c passed

abbrev pub MembersAct : Type 0
MembersAct =
    (result : Result (Unit {0}) Fault) (left rest : Told) (gone new : Gone)
    (part : TookPart result left rest gone new) → gone.past ≡ Some [] →
    HasActed part.sets.input.first part.words part.sets.number part.first new.past

-- or a server
pub record HasServed (shape : Shape) (past : Option (List Passing)) : Type 0 where
  pub passed : List Passing
  pub all : past ≡ Some (Took (setup shape) ∷ passed)
  pub acts : ActsAsServer shape passed

abbrev pub ServersAct : Type 0
ServersAct =
    (shape : Shape) (left rest : Told) (gone new : Gone) → gone.past ≡ Some [] →
    RanDone shape left rest (after_setup shape gone) new ⊎ RanFront shape left rest (after_setup shape gone) new →
    HasServed shape new.past

-- ---- what switches may carry

-- these stand in front of those
pub record IsFront {X : Type 0} (xs ys : List X) : Type 0 where
  pub rest : List X
  pub whole : xs ++ rest ≡ ys

-- it is the next of the frames that were put, of which these were taken
abbrev pub IsNextFrame : List ℕ → List (List ℕ) → List (List ℕ) → Type 0
IsNextFrame frame taken put = IsFront (taken ++ frame ∷ []) put

-- a server takes the next frame of a client
pub record IsFrameUp (shape : Shape) (before : List Doing) (j : ℕ) (p : PacketView) : Type 0 where
  pub one : 1 ≤ j
  pub most : j ≤ shape.servers
  pub client : ℕ
  pub low : client < shape.clients
  pub peer : p.peer ≡ client + 1
  pub next : IsNextFrame p.bytes (frames_for (client + 1) (taken_in (of_server j before)))
      (frames_for j (put_in (of_client client before)))

-- a client takes the next frame of a server
pub record IsFrameDown (shape : Shape) (before : List Doing) (c : ℕ) (p : PacketView) : Type 0 where
  pub one : 1 ≤ p.peer
  pub most : p.peer ≤ shape.servers
  pub next : IsNextFrame p.bytes (frames_for p.peer (taken_in (of_client c before)))
      (frames_for (c + 1) (put_in (of_server p.peer before)))

-- how many frames of a client a server took and didn't refuse
abbrev pub count_taken : Shape → List Doing → ℕ → ℕ → ℕ
count_taken shape before j c =
    let s = seat_of (seats_after shape (empty_seats shape) (taken_in (of_server j before))) c in
    length s.writes + length s.reads

-- a host tells of no more packets than a server took
pub record HasAsMany (shape : Shape) (before : List Doing) (c count : ℕ) : Type 0 where
  pub server : ℕ
  pub one : 1 ≤ server
  pub most : server ≤ shape.servers
  pub few : count ≤ count_taken shape before server c

abbrev pub IsHonest : Shape → List Doing → ℕ → HostWord → Type 0
IsHonest shape before c (Say log text) = Unit {0}
IsHonest shape before c Tick = Unit {0}
IsHonest shape before c (Ahead turns) = Unit {0}
IsHonest shape before c (Has count) = HasAsMany shape before c count

-- a client takes a word of its host
pub record IsWord (shape : Shape) (before : List Doing) (c : ℕ) (p : PacketView) : Type 0 where
  pub host : p.peer ≡ 0
  pub word : HostWord
  pub spelled : word_in p.bytes ≡ Some word
  pub honest : IsHonest shape before c word

-- what may happen next
abbrev pub MayHappen : Shape → List Doing → Doing → Type 0
MayHappen shape before (OfClient c (Took p)) =
    (c < shape.clients) × (IsWord shape before c p ⊎ IsFrameDown shape before c p)
MayHappen shape before (OfClient c (Put p)) = Unit {0}
MayHappen shape before (OfServer j (Took p)) = IsFrameUp shape before j p
MayHappen shape before (OfServer j (Put p)) = Unit {0}

-- The streams of the programs agree, link by link: whatever is taken is the next of what was put, or a host's word.
abbrev pub StreamsAgree : Shape → List Doing → Type 0
StreamsAgree shape ds =
    (before after : List Doing) (d : Doing) → ds ≡ before ++ d ∷ after → MayHappen shape before d

-- each is the program
pub record ArePrograms (S : Script) (books : ℕ → WordBook) (ds : List Doing) : Type 0 where
  pub members : (c : ℕ) → c < S.shape.clients → ActsAsMember S (books c) c (of_client c ds)
  pub servers : (j : ℕ) → 1 ≤ j → j ≤ S.shape.servers → ActsAsServer S.shape (of_server j ds)
  pub agree : StreamsAgree S.shape ds

-- ---- what they make together

-- a state after packets
abbrev pub state_after : {X : Type 0} → (X → PacketView → X) → X → List PacketView → X
state_after next x [] = x
state_after next x (p ∷ ps) = state_after next (next x p) ps

abbrev pub member_after : Script → (ℕ → WordBook) → ℕ → List PacketView → MemberState
member_after S books c ps = state_after (member_next (books c)) (first_member S c) ps

abbrev pub seats_from : Shape → List PacketView → List Seat
seats_from shape ps = state_after (seats_next shape) (empty_seats shape) ps

-- Each member and each server of a meeting stands as the program does, and what programs put, a part of which may
-- still be to come, stands in front of what the meeting has of them.
pub record StandAsPrograms (S : Script) (books : ℕ → WordBook) (ds : List Doing) (m : Meeting) : Type 0 where
  pub members : (c : ℕ) → c < S.shape.clients →
      m.members c ≡ member_after S books c (taken_in (of_client c ds))
  pub seats : (j : ℕ) → 1 ≤ j → j ≤ S.shape.servers →
      m.seats j ≡ seats_from S.shape (taken_in (of_server j ds))
  pub told : (c : ℕ) → c < S.shape.clients → IsFront (for_peer 0 (put_in (of_client c ds))) (m.told c)
  pub up : (c j : ℕ) → c < S.shape.clients → 1 ≤ j → j ≤ S.shape.servers →
      IsFront (frames_for j (put_in (of_client c ds)))
      (frames_for (c + 1) (taken_in (of_server j ds)) ++ m.up c j)
  pub down : (j c : ℕ) → 1 ≤ j → j ≤ S.shape.servers → c < S.shape.clients →
      IsFront (frames_for (c + 1) (put_in (of_server j ds)))
      (frames_for j (taken_in (of_client c ds)) ++ m.down j c)

pub record IsSomeMeeting (S : Script) (books : ℕ → WordBook) (ds : List Doing) : Type 0 where
  pub events : List Event
  pub shows : StandAsPrograms S books ds (met S books events)

-- Programs whose streams agree are some meeting.
abbrev pub ProgramsMeet : Type 0
ProgramsMeet =
    (S : Script) (books : ℕ → WordBook) (ds : List Doing) → ArePrograms S books ds → IsSomeMeeting S books ds
