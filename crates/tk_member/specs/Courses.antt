-- What a member took and sent, until it ended.
use Rattle.std.specs.Prelude.{◌≡◌, ℕ, ◌+◌, ◌^◌, ◌≤◌, ◌⊎◌, Bool, true, false, cond, List, [], ◌++◌}
use Rattle.std.specs.Prelude.{length, take, Option, Some, None, Result, Ok, Err}
use Rattle.std.specs.List.{AllByRecursion}
use Rattle.std.specs.Simd.Lanes.{fold_l}
pub use Rattle.tk_io.specs.Content.{Told}
use Rattle.tk_io.specs.Content.{before_taking, emptied, gained}
use Rattle.tk_words.specs.Words.{WordBook}
use Rattle.tk_packets.specs.Packets.{PacketView, packet_bytes, packets_bytes, EndsWithin, ComesLong, TakesAtMost}
use Rattle.tk_packets.specs.Lines.{Passing, Gone, passed, taken, dealt, after_taking, exchanges}
use Rattle.tk_member.specs.declared.fault.Fault.{Fault}
use Rattle.tk_member.specs.declared.fault.Fault.TheVariants.{Memory, Read, Write, Cut, Long, Setup}
use Rattle.tk_member.specs.declared.fault.Fault.TheVariants.{Peer, Differ, Refused, Older}
use Rattle.tk_member.specs.Members.{MemberState, is_over}
use Rattle.tk_member.specs.Acting.{ActedMember, unmoved, behind}
use Rattle.tk_member.specs.Steps.{step}
use Rattle.tk_member.specs.SetUp.{IsSetUp}

-- the bytes of a packet at most: those of the first one have room for a number and the largest input
abbrev pub most_first : ℕ
most_first = 4 + 8388608

abbrev pub most_later : ℕ
most_later = 65536

-- one behind the first is no longer
abbrev pub IsShort : PacketView → Type 0
IsShort p = length p.bytes ≤ most_later

-- ---- packets one after the other

abbrev pub behind_if : ActedMember → Result ActedMember Fault → Option ActedMember
behind_if t (Ok u) = Some (behind t.packets u)
behind_if t (Err fault) = None

-- after one packet more; none where the run is over, or where the packet ends it
abbrev pub after_packet : WordBook → Option ActedMember → PacketView → Option ActedMember
after_packet b None p = None
after_packet b (Some t) p = cond (is_over t.member) None (behind_if t (step b t.member p))

-- how a member stands after packets, and all that it sends for them; none where it takes no more
unfoldable pub after_packets : WordBook → MemberState → List PacketView → Option ActedMember
after_packets b m packets = fold_l (after_packet b) (Some (unmoved m)) packets

-- How it stands after a packet, and what it sends for it; one that ends it changes nothing.
abbrev pub stood_by : MemberState → Result ActedMember Fault → MemberState
stood_by m (Ok t) = t.member
stood_by m (Err fault) = m

abbrev pub sent_by : Result ActedMember Fault → List PacketView
sent_by (Ok t) = t.packets
sent_by (Err fault) = []

abbrev pub member_next : WordBook → MemberState → PacketView → MemberState
member_next b m p = stood_by m (step b m p)

abbrev pub sends_next : WordBook → MemberState → PacketView → List PacketView
sends_next b m p = sent_by (step b m p)

-- each packet, and behind it what is sent for it, before the next
unfoldable pub exchanged : WordBook → MemberState → List PacketView → List Passing
exchanged b m packets = exchanges (member_next b) (sends_next b) m packets

-- packets were taken, after which the member stands so
pub record Takes (b : WordBook) (m : MemberState) (t : ActedMember) (left middle : Told) : Type 0 where
  pub packets : List PacketView
  pub short : AllByRecursion IsShort packets
  pub stands : after_packets b m packets ≡ Some t
  pub taken : left ≡ before_taking (packets_bytes packets) middle

-- and all that it sends for each was put before the next was taken
pub record IsCourse (b : WordBook) (m : MemberState) (t : ActedMember) (left middle : Told) (gone new : Gone)
    : Type 0 where
  pub takes : Takes b m t left middle
  pub puts : new.bytes ≡ gained gone.bytes (packets_bytes t.packets)
  pub order : new.past ≡ passed gone.past (exchanged b m takes.packets)

-- ---- how it ends, once it is set up

-- The run is over, or nothing is left; or as many packets were taken as 64 bits can count.
abbrev pub IsDone : MemberState → List PacketView → Told → Type 0
IsDone m packets rest =
    (is_over m ≡ true) ⊎ (rest ≡ emptied rest) ⊎ (2 ^ 64 ≤ length packets + 1)

pub record EndsDone (b : WordBook) (m : MemberState) (left rest : Told) (gone new : Gone) : Type 0 where
  pub last : ActedMember
  pub course : IsCourse b m last left rest gone new
  pub done : IsDone last.member course.takes.packets rest

-- no packet could be taken, of which this holds, while the run wasn't over
pub record EndsBetween (Fails : Told → Told → Type 0) (b : WordBook) (m : MemberState)
    (left rest : Told) (gone new : Gone) : Type 0 where
  pub last : ActedMember
  pub middle : Told
  pub course : IsCourse b m last left middle gone new
  pub goes_on : is_over last.member ≡ false
  pub fails : Fails middle rest

-- a packet came that ends it for this fault
pub record EndsAt (fault : Fault) (b : WordBook) (m : MemberState) (left rest : Told) (gone new : Gone)
    : Type 0 where
  pub last : ActedMember
  pub middle : Told
  pub before : Gone
  pub course : IsCourse b m last left middle gone before
  pub goes_on : is_over last.member ≡ false
  pub packet : PacketView
  pub comes : middle ≡ before_taking (packet_bytes packet) rest
  pub short : IsShort packet
  pub took : new ≡ after_taking (Some packet) before
  pub ends : step b last.member packet ≡ Err fault

-- a front of what it sends was put, and no more than a packet was taken besides; nothing, where the run is over
pub record EndsWriting (b : WordBook) (m : MemberState) (left rest : Told) (gone new : Gone) : Type 0 where
  pub last : ActedMember
  pub middle : Told
  pub takes : Takes b m last left middle
  pub count : ℕ
  pub puts : new.bytes ≡ gained gone.bytes (take count (packets_bytes last.packets))
  pub besides : Option PacketView
  pub so_far : ℕ
  pub order : new.past ≡ passed gone.past (take so_far (exchanged b m takes.packets ++ taken besides))
  pub few : TakesAtMost (8 + most_later) middle rest
  pub over : is_over last.member ≡ true → rest ≡ middle

-- how a member that is set up ends for a fault
abbrev pub EndsFor : Fault → WordBook → MemberState → Told → Told → Gone → Gone → Type 0
EndsFor Memory b m left rest gone new = EndsWriting b m left rest gone new
EndsFor Read b m left rest gone new =
    EndsBetween (TakesAtMost (8 + most_later)) b m left rest gone new
EndsFor Write b m left rest gone new = EndsWriting b m left rest gone new
EndsFor Cut b m left rest gone new = EndsBetween (EndsWithin most_later) b m left rest gone new
EndsFor Long b m left rest gone new = EndsBetween (ComesLong most_later) b m left rest gone new
EndsFor Setup b m left rest gone new = ⊥
EndsFor Peer b m left rest gone new = EndsAt Peer b m left rest gone new
EndsFor Differ b m left rest gone new = EndsAt Differ b m left rest gone new
EndsFor Refused b m left rest gone new = EndsAt Refused b m left rest gone new
EndsFor Older b m left rest gone new = EndsAt Older b m left rest gone new

-- and how one ends
abbrev pub Ends : {T : Type 0} → Result T Fault → WordBook → MemberState → Told → Told → Gone →
    Gone → Type 0
Ends (Ok t) b m left rest gone new = EndsDone b m left rest gone new
Ends (Err fault) b m left rest gone new = EndsFor fault b m left rest gone new

-- so many packets were taken, after which the member is this one
pub record HasTaken (count : ℕ) (b : WordBook) (m n : MemberState) (left rest : Told) (gone new : Gone) : Type 0
  where
    pub last : ActedMember
    pub course : IsCourse b m last left rest gone new
    pub counted : length course.takes.packets ≡ count
    pub is : n ≡ last.member

-- ---- one packet

-- it was taken, and what the member sends then was put
pub record TookOne (b : WordBook) (m n : MemberState) (left rest : Told) (gone new : Gone) : Type 0 where
  pub packet : PacketView
  pub comes : left ≡ before_taking (packet_bytes packet) rest
  pub short : IsShort packet
  pub sent : List PacketView
  pub steps : step b m packet ≡ Ok (record { member = n; packets = sent })
  pub puts : new.bytes ≡ gained gone.bytes (packets_bytes sent)
  pub order : new.past ≡ passed gone.past (dealt packet sent)

-- nothing was left
pub record TookNone (m n : MemberState) (left rest : Told) (gone new : Gone) : Type 0 where
  pub none : left ≡ before_taking [] rest
  pub end : rest ≡ emptied left
  pub stays : n ≡ m
  pub kept : new ≡ gone

-- whether a packet was taken, or how it ends
abbrev pub TakesNext : Result Bool Fault → WordBook → MemberState → MemberState → Told → Told →
    Gone → Gone → Type 0
TakesNext (Ok true) b m n left rest gone new = TookOne b m n left rest gone new
TakesNext (Ok false) b m n left rest gone new = TookNone m n left rest gone new
TakesNext (Err fault) b m n left rest gone new = EndsFor fault b m left rest gone new

-- ---- from the first packet on

-- a packet came that sets no member up
pub record IsNoSetup (left rest : Told) : Type 0 where
  pub first : PacketView
  pub comes : left ≡ before_taking (packet_bytes first) rest
  pub short : length first.bytes ≤ most_first
  pub other : (b : WordBook) (m : MemberState) → IsSetUp first b m → ⊥

-- no member was set up
abbrev pub EndsUnset : {T : Type 0} → Result T Fault → Told → Told → Type 0
EndsUnset (Ok t) left rest = (left ≡ emptied left) × (rest ≡ left)
EndsUnset (Err Memory) left rest = TakesAtMost (8 + most_first) left rest
EndsUnset (Err Read) left rest = TakesAtMost (8 + most_first) left rest
EndsUnset (Err Write) left rest = ⊥
EndsUnset (Err Cut) left rest = EndsWithin most_first left rest
EndsUnset (Err Long) left rest = ComesLong most_first left rest
EndsUnset (Err Setup) left rest = IsNoSetup left rest
EndsUnset (Err Peer) left rest = ⊥
EndsUnset (Err Differ) left rest = ⊥
EndsUnset (Err Refused) left rest = ⊥
EndsUnset (Err Older) left rest = ⊥

-- the first packet set a member up, which then ended so
pub record TookPart {T : Type 0} (result : Result T Fault) (left rest : Told) (gone new : Gone) : Type 0
  where
    pub first : PacketView
    pub words : WordBook
    pub member : MemberState
    pub sets : IsSetUp first words member
    pub short : length first.bytes ≤ most_first
    pub middle : Told
    pub comes : left ≡ before_taking (packet_bytes first) middle
    pub ends : Ends result words member middle rest (after_taking (Some first) gone) new

-- nothing was put, and no more than a packet was taken
abbrev pub IsUnsent : Gone → Gone → Type 0
IsUnsent gone new = (o : Option PacketView) × (new ≡ after_taking o gone)

-- nothing was sent, or a member took part
abbrev pub TakesPart : {T : Type 0} → Result T Fault → Told → Told → Gone → Gone → Type 0
TakesPart result left rest gone new =
    (EndsUnset result left rest × IsUnsent gone new) ⊎ TookPart result left rest gone new
