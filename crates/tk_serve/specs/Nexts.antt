-- What becomes of the next packet of a client.
use Rattle.std.specs.Prelude.{◌≡◌, ℕ, ◌+◌, ◌<◌, ◌⊎◌, Bool, true, false, List, take, Some}
use Rattle.std.specs.Prelude.{Result, Ok, Err, OnErr}
use Rattle.tk_io.specs.Content.{before_taking, emptied, gained}
use Rattle.tk_shape.specs.declared.shape.Shape.{Shape}
use Rattle.tk_packets.specs.Packets.{PacketView, packet_bytes, packets_bytes, EndsWithin, ComesLong}
use Rattle.tk_packets.specs.Lines.{Gone, passed, dealt, after_taking}
use Rattle.tk_serve.specs.Seats.{Seat}
use Rattle.tk_serve.specs.Steps.{IsOfClient, step_on}
use Rattle.tk_serve.specs.Setup.{longest_frame}
use Rattle.tk_serve.specs.Courses.{Told, IsStill, IsShort, StopsWithin, StopsBehind}
use Rattle.tk_serve.specs.declared.fault.Fault.{Fault}
use Rattle.tk_serve.specs.declared.fault.Fault.TheVariants as fault
use Rattle.tk_serve.specs.declared.server.Server.{Server}
use Rattle.tk_serve.specs.Stands.{HasApplied, ForOwnSeats}

-- it is taken, and what goes out for it is put
pub record TakesNext (shape : Shape) (seats : List Seat) (s : Server) (left rest : Told) (gone new : Gone) : Type 0 where
  pub came : PacketView
  pub of_client : IsOfClient shape came
  pub short : IsShort shape came
  pub taken : left ≡ before_taking (packet_bytes came) rest
  pub puts : new.bytes ≡ gained gone.bytes (packets_bytes (step_on shape seats came).packets)
  pub order : new.past ≡ passed gone.past (dealt came (step_on shape seats came).packets)
  pub stands : HasApplied shape (step_on shape seats came).seats s

-- it is taken, and a front of what goes out for it is put
pub record TakesNextFront (shape : Shape) (seats : List Seat) (left rest : Told) (gone new : Gone) : Type 0 where
  pub came : PacketView
  pub of_client : IsOfClient shape came
  pub short : IsShort shape came
  pub taken : left ≡ before_taking (packet_bytes came) rest
  pub count : ℕ
  pub puts : new.bytes ≡ gained gone.bytes (take count (packets_bytes (step_on shape seats came).packets))
  pub so_far : ℕ
  pub order : new.past ≡ passed gone.past (take so_far (dealt came (step_on shape seats came).packets))

-- nothing is left
pub record NoneNext (left rest : Told) (gone new : Gone) : Type 0 where
  pub all : left ≡ rest
  pub empty : rest ≡ emptied rest
  pub unchanged : IsStill gone new

pub record CutNext (shape : Shape) (left rest : Told) (gone new : Gone) : Type 0 where
  pub cut : EndsWithin (longest_frame shape) left rest
  pub unchanged : IsStill gone new

pub record LongNext (shape : Shape) (left rest : Told) (gone new : Gone) : Type 0 where
  pub long : ComesLong (longest_frame shape) left rest
  pub unchanged : IsStill gone new

pub record StrangerNext (shape : Shape) (left rest : Told) (gone new : Gone) : Type 0 where
  pub stranger : PacketView
  pub comes : left ≡ before_taking (packet_bytes stranger) rest
  pub short : IsShort shape stranger
  pub nobody : (stranger.peer ≡ 0) ⊎ (shape.clients < stranger.peer)
  pub took : new ≡ after_taking (Some stranger) gone

-- a front of what goes out for it is put, or it isn't taken as a frame
abbrev pub NextFront : Shape → List Seat → Told → Told → Gone → Gone → Type 0
NextFront shape seats left rest gone new =
    StopsBehind (8 + longest_frame shape) left rest gone new ⊎ TakesNextFront shape seats left rest gone new

-- where the answer is true it was taken, whatever seats the server stood for
abbrev pub TookNext : Result Bool Fault → Server → Server → Told → Told → Gone → Gone → Type 0
TookNext result s now left rest gone new =
    ForOwnSeats s (λ seats. result ≡ Ok true → TakesNext s.shape seats now left rest gone new)

-- and after an error no more than a front went out
abbrev pub TookNextFront : Result Bool Fault → Server → Told → Told → Gone → Gone → Type 0
TookNextFront result s left rest gone new =
    ForOwnSeats s (λ seats. OnErr result (NextFront s.shape seats left rest gone new))

-- what became of it, by what is answered
pub record HasNext (result : Result Bool Fault) (shape : Shape) (left rest : Told) (gone new : Gone) : Type 0 where
  pub none : result ≡ Ok false → NoneNext left rest gone new
  pub setup : result ≡ Err fault.Setup → ⊥
  pub cut : result ≡ Err fault.Cut → CutNext shape left rest gone new
  pub long : result ≡ Err fault.Long → LongNext shape left rest gone new
  pub peer : result ≡ Err fault.Peer → StrangerNext shape left rest gone new
  pub whole : result ≡ Err fault.Read → StopsWithin (8 + longest_frame shape) left rest gone new
