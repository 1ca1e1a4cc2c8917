-- What a server took and put, until it ended.
use Rattle.std.specs.Prelude.{◌≡◌, ℕ, ◌+◌, ◌^◌, ◌≤◌, ◌<◌, ◌⊎◌, List, ◌++◌, length, take, Option, Some}
use Rattle.std.specs.Prelude.{Result, Err, OnOk}
use Rattle.std.specs.List.{AllByRecursion}
pub use Rattle.tk_io.specs.Content.{Told}
use Rattle.tk_io.specs.Content.{before_taking, emptied, gained}
use Rattle.tk_shape.specs.declared.shape.Shape.{Shape}
use Rattle.tk_packets.specs.Packets.{PacketView, packet_bytes, packets_bytes, EndsWithin, ComesLong, TakesAtMost}
use Rattle.tk_packets.specs.Lines.{Passing, Gone, passed, taken, after_taking, exchanges}
use Rattle.tk_serve.specs.declared.fault.Fault.{Fault}
use Rattle.tk_serve.specs.declared.fault.Fault.TheVariants as fault
use Rattle.tk_serve.specs.Seats.{Seat, empty_seats}
use Rattle.tk_serve.specs.Steps.{IsOfClient, step_on, answers, seats_after, IsOver}
use Rattle.tk_serve.specs.Setup.{setup, setup_len, longest_frame}

-- a packet is no longer than a client's longest frame
abbrev pub IsShort : Shape → PacketView → Type 0
IsShort shape p = length p.bytes ≤ longest_frame shape

-- these packets of clients were taken
pub record Takes (shape : Shape) (frames : List PacketView) (left middle : Told) : Type 0 where
  pub of_clients : AllByRecursion (IsOfClient shape) frames
  pub short : AllByRecursion (IsShort shape) frames
  pub taken : left ≡ before_taking (packets_bytes frames) middle

-- what goes out for packets of clients, from the first on
unfoldable pub answered : Shape → List PacketView → List ℕ
answered shape frames = packets_bytes (answers shape (empty_seats shape) frames)

-- The seats after a packet of a client, and what goes out for it.
abbrev pub seats_next : Shape → List Seat → PacketView → List Seat
seats_next shape seats p = (step_on shape seats p).seats

abbrev pub answers_next : Shape → List Seat → PacketView → List PacketView
answers_next shape seats p = (step_on shape seats p).packets

-- each packet, and behind it what goes out for it, before the next
unfoldable pub exchanged : Shape → List PacketView → List Passing
exchanged shape frames = exchanges (seats_next shape) (answers_next shape) (empty_seats shape) frames

-- the run isn't over after these packets
abbrev pub IsGoing : Shape → List PacketView → Type 0
IsGoing shape frames = IsOver shape (seats_after shape (empty_seats shape) frames) → ⊥

-- it wasn't over before any of them
abbrev pub Goes : Shape → List PacketView → Type 0
Goes shape frames = (k : ℕ) → k < length frames → IsGoing shape (take k frames)

-- packets of clients were taken while the run wasn't over, and all that goes out for each was put before the next was
-- taken
pub record IsCourse (shape : Shape) (frames : List PacketView) (left middle : Told) (gone new : Gone) : Type 0 where
  pub takes : Takes shape frames left middle
  pub goes : Goes shape frames
  pub puts : new.bytes ≡ gained gone.bytes (answered shape frames)
  pub order : new.past ≡ passed gone.past (exchanged shape frames)

-- some of it was put, and at most one packet was taken behind all of it
pub record IsCourseFront (shape : Shape) (frames : List PacketView) (left middle : Told) (gone new : Gone) : Type 0 where
  pub takes : Takes shape frames left middle
  pub goes : Goes shape frames
  pub count : ℕ
  pub puts : new.bytes ≡ gained gone.bytes (take count (answered shape frames))
  pub last : Option PacketView
  pub so_far : ℕ
  pub order : new.past ≡ passed gone.past (take so_far (exchanged shape frames ++ taken last))

-- ---- how it ends, once it is set up

-- the run is over, or nothing is left; or as many packets were taken as can be counted
abbrev pub IsDone : Shape → List PacketView → Told → Type 0
IsDone shape frames left =
    IsOver shape (seats_after shape (empty_seats shape) frames) ⊎ ((left ≡ emptied left)
    ⊎ (2 ^ 64 ≤ length frames + 1))

pub record RanDone (shape : Shape) (left middle : Told) (gone new : Gone) : Type 0 where
  pub frames : List PacketView
  pub course : IsCourse shape frames left middle gone new
  pub done : IsDone shape frames middle

pub record RanCut (shape : Shape) (left rest : Told) (gone new : Gone) : Type 0 where
  pub frames : List PacketView
  pub middle : Told
  pub course : IsCourse shape frames left middle gone new
  pub going : IsGoing shape frames
  pub cut : EndsWithin (longest_frame shape) middle rest

pub record RanLong (shape : Shape) (left rest : Told) (gone new : Gone) : Type 0 where
  pub frames : List PacketView
  pub middle : Told
  pub course : IsCourse shape frames left middle gone new
  pub going : IsGoing shape frames
  pub long : ComesLong (longest_frame shape) middle rest

-- a packet of a peer that there is not
pub record RanPeer (shape : Shape) (left rest : Told) (gone new : Gone) : Type 0 where
  pub frames : List PacketView
  pub middle : Told
  pub before : Gone
  pub course : IsCourse shape frames left middle gone before
  pub going : IsGoing shape frames
  pub stranger : PacketView
  pub comes : middle ≡ before_taking (packet_bytes stranger) rest
  pub short : IsShort shape stranger
  pub took : new ≡ after_taking (Some stranger) before
  pub nobody : (stranger.peer ≡ 0) ⊎ (shape.clients < stranger.peer)

-- all that went out was put while the source could be read; of what was left then no more than a packet was taken
pub record RanRead (shape : Shape) (left rest : Told) (gone new : Gone) : Type 0 where
  pub frames : List PacketView
  pub middle : Told
  pub course : IsCourse shape frames left middle gone new
  pub going : IsGoing shape frames
  pub takes : TakesAtMost (8 + longest_frame shape) middle rest

-- a front of what goes out was put, and no more than a packet was taken besides; nothing, where the run is over
pub record RanFront (shape : Shape) (left rest : Told) (gone new : Gone) : Type 0 where
  pub frames : List PacketView
  pub middle : Told
  pub course : IsCourseFront shape frames left middle gone new
  pub takes : TakesAtMost (8 + longest_frame shape) middle rest
  pub over : IsOver shape (seats_after shape (empty_seats shape) frames) → rest ≡ middle

-- how it ended, by what it answers
pub record HasRun {X : Type 0} (result : Result X Fault) (shape : Shape) (left rest : Told) (gone new : Gone)
    : Type 0 where
  pub done : OnOk result (RanDone shape left rest gone new)
  pub setup : result ≡ Err fault.Setup → ⊥
  pub cut : result ≡ Err fault.Cut → RanCut shape left rest gone new
  pub long : result ≡ Err fault.Long → RanLong shape left rest gone new
  pub peer : result ≡ Err fault.Peer → RanPeer shape left rest gone new
  pub whole : result ≡ Err fault.Read → RanRead shape left rest gone new

-- ---- from the first packet on

-- the first packet set the server up, and what is left then
pub record IsSetUp (shape : Shape) (left middle : Told) : Type 0 where
  pub taken : left ≡ before_taking (packet_bytes (setup shape)) middle

-- what is gone with the packet that sets a server up
abbrev pub after_setup : Shape → Gone → Gone
after_setup shape gone = after_taking (Some (setup shape)) gone

-- a run in which what is left after the setup has this
pub record SetUpThen (Ran : Shape → Told → Type 0) (left : Told) : Type 0 where
  pub shape : Shape
  pub middle : Told
  pub set_up : IsSetUp shape left middle
  pub ran : Ran shape middle

-- nothing came at all
pub record NothingCame (left middle : Told) (gone new : Gone) : Type 0 where
  pub empty : left ≡ emptied left
  pub kept : middle ≡ left
  pub unchanged : new ≡ gone

-- the first packet isn't one of the host that sets a server up
pub record IsNoSetup (left rest : Told) (gone new : Gone) : Type 0 where
  pub first : PacketView
  pub comes : left ≡ before_taking (packet_bytes first) rest
  pub short : length first.bytes ≤ setup_len
  pub other : (shape : Shape) → first ≡ setup shape → ⊥
  pub took : new ≡ after_taking (Some first) gone

-- nothing passed
abbrev pub IsStill : Gone → Gone → Type 0
IsStill gone new = new ≡ gone

-- and no more than so many bytes were taken
pub record StopsWithin (most : ℕ) (left rest : Told) (gone new : Gone) : Type 0 where
  pub takes : TakesAtMost most left rest
  pub unchanged : IsStill gone new

-- the same where a packet may have been taken, for which nothing was put
pub record StopsBehind (most : ℕ) (left rest : Told) (gone new : Gone) : Type 0 where
  pub takes : TakesAtMost most left rest
  pub last : Option PacketView
  pub took : new ≡ after_taking last gone

-- the first packet was cut, or longer than one that sets a server up
pub record CutFirst (left rest : Told) (gone new : Gone) : Type 0 where
  pub cut : EndsWithin setup_len left rest
  pub unchanged : IsStill gone new

pub record LongFirst (left rest : Told) (gone new : Gone) : Type 0 where
  pub long : ComesLong setup_len left rest
  pub unchanged : IsStill gone new

-- a run once the first packet set the server up
abbrev pub RanBehind : (Shape → Told → Told → Gone → Gone → Type 0) → Told → Told → Gone → Gone → Type 0
RanBehind Ran left rest gone new =
    SetUpThen (λ shape middle. Ran shape middle rest (after_setup shape gone) new) left

-- a front of what goes out was put
abbrev pub ServedFront : Told → Told → Gone → Gone → Type 0
ServedFront left rest gone new = StopsBehind (8 + setup_len) left rest gone new ⊎ RanBehind RanFront left rest gone new

-- how a server ended, by what it answers
pub record HasServed {X : Type 0} (result : Result X Fault) (left rest : Told) (gone new : Gone) : Type 0 where
  pub done : OnOk result (NothingCame left rest gone new ⊎ RanBehind RanDone left rest gone new)
  pub setup : result ≡ Err fault.Setup → IsNoSetup left rest gone new
  pub cut : result ≡ Err fault.Cut → CutFirst left rest gone new ⊎ RanBehind RanCut left rest gone new
  pub long : result ≡ Err fault.Long → LongFirst left rest gone new ⊎ RanBehind RanLong left rest gone new
  pub peer : result ≡ Err fault.Peer → RanBehind RanPeer left rest gone new
  pub whole : result ≡ Err fault.Read →
      StopsWithin (8 + setup_len) left rest gone new ⊎ RanBehind RanRead left rest gone new
