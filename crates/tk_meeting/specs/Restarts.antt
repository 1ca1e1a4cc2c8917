-- Programs that are begun again: a member that is given its journal, and a server that is given again what clients sent.
use Rattle.std.specs.Prelude.{◌≡◌, ℕ, ◌+◌, ◌≤◌, ◌<◌, List, ◌∷◌, ◌++◌, length, Some}
use Rattle.std.specs.List.{AllByRecursion}
use Rattle.tk_shape.specs.declared.shape.Shape.{Shape}
use Rattle.tk_script.specs.declared.script.Script.{Script}
use Rattle.tk_words.specs.Words.{WordBook}
use Rattle.tk_packets.specs.Packets.{PacketView}
use Rattle.tk_serve.specs.Told.{told}
use Rattle.tk_serve.specs.Steps.{IsOfClient}
use Rattle.tk_serve.specs.Laws.{Comes}
use Rattle.tk_member.specs.declared.word.HostWord.TheVariants.{Has}
use Rattle.tk_member.specs.Words.{word_in}
use Rattle.tk_member.specs.Acting.{ActedMember}
use Rattle.tk_member.specs.Courses.{after_packets}
use Rattle.tk_meeting.specs.Meeting.{frames_for}
use Rattle.tk_meeting.specs.Programs.{first_member, seats_from, IsFront}

-- ---- members

-- a member that took the packets of a journal put these, and now it has put those
pub record PutsAgain (S : Script) (b : WordBook) (c : ℕ) (journal : List PacketView) (again : ActedMember) : Type 0 where
  pub was : ActedMember
  pub stood : after_packets b (first_member S c) journal ≡ Some was
  pub front : IsFront was.packets again.packets

-- A member that is given its journal puts again what it put, packet by packet, and then more.
abbrev pub MembersPutAgain : Type 0
MembersPutAgain =
    (S : Script) (b : WordBook) (c : ℕ) (journal later : List PacketView) (again : ActedMember) →
    after_packets b (first_member S c) (journal ++ later) ≡ Some again → PutsAgain S b c journal again

-- a host's word of how many packets of its member a server has
pub record Greets (count : ℕ) (p : PacketView) : Type 0 where
  pub host : p.peer ≡ 0
  pub spelled : word_in p.bytes ≡ Some (Has count)

pub record IsGreeting (p : PacketView) : Type 0 where
  pub count : ℕ
  pub greets : Greets count p

-- A member took packets, and of what it put server j has these frames. It is begun again: it is given a front of what it
-- took, which is its journal; then it is greeted, with as many frames as server j has among them; then it takes others.
pub record BeginsAgain (S : Script) (b : WordBook) (c j : ℕ) (had : List (List ℕ)) (again : ActedMember) : Type 0 where
  pub before : List PacketView
  pub was : ActedMember
  pub stood : after_packets b (first_member S c) before ≡ Some was
  pub has : IsFront had (frames_for j was.packets)
  pub journal : List PacketView
  pub kept : IsFront journal before
  pub greetings : List PacketView
  pub greet : AllByRecursion IsGreeting greetings
  pub greeting : PacketView
  pub greets : Greets (length had) greeting
  pub later : List PacketView
  pub stands : after_packets b (first_member S c) (journal ++ (greetings ++ greeting ∷ later)) ≡ Some again

-- If it goes on then, what it puts for server j begins with what server j has: no turn gets another frame. However old
-- its journal is, and whatever comes later.
abbrev pub MembersGoOn : Type 0
MembersGoOn =
    (S : Script) (b : WordBook) (c j : ℕ) (had : List (List ℕ)) (again : ActedMember) → 1 ≤ j → j ≤ S.shape.servers →
    BeginsAgain S b c j had again → IsFront had (frames_for j again.packets)

-- ---- servers

-- of each client a front of its frames came, in whatever order clients came
pub record ComesOf (shape : Shape) (sent came : List PacketView) : Type 0 where
  pub comes : AllByRecursion (Comes shape) came
  pub fronts : (c : ℕ) → c < shape.clients → IsFront (frames_for (c + 1) came) (frames_for (c + 1) sent)

-- What a server told a client then is a front of what it tells it once all came: so what it told before it lost all and
-- what it tells when it is given all again agree.
abbrev pub ServersTellAgain : Type 0
ServersTellAgain =
    (shape : Shape) (sent came : List PacketView) (c : ℕ) → AllByRecursion (Comes shape) sent →
    ComesOf shape sent came → c < shape.clients →
    IsFront (told shape (seats_from shape came) c) (told shape (seats_from shape sent) c)

-- Once the same came of each client, a server has the same.
abbrev pub ServersStandAgain : Type 0
ServersStandAgain =
    (shape : Shape) (before again : List PacketView) → AllByRecursion (IsOfClient shape) before →
    AllByRecursion (IsOfClient shape) again →
    ((c : ℕ) → c < shape.clients → frames_for (c + 1) again ≡ frames_for (c + 1) before) →
    seats_from shape again ≡ seats_from shape before
