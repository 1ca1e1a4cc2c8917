-- What becomes of the next packet, from the calls that take it and put what goes out.
use Rattle.std.proofs.Common.{◌≡◌, ℕ, ◌+◌, ◌-◌, ◌≤◌, List, length, take, ap, ap₂, ◌∙◌, subst, false, Some}
use Rattle.std.specs.Prelude.{Result, Ok, Err, OnOk}
use Rattle.std.specs.Result.{is_err}
use Rattle.tk_io.specs.Content.{before_taking, gained}
use Rattle.tk_shape.specs.declared.shape.Shape.{Shape}
use Rattle.tk_packets.specs.Packets.{PacketView, packet_bytes, packets_bytes}
use Rattle.tk_packets.specs.Lines.{Gone, passed, dealt, after_taking, HasPut, HasPutFront}
use Rattle.tk_packets.proofs.Offers.{takes-packet, dealt-bytes, dealt-order, dealt-bytes_front, dealt-order_front}
use Rattle.tk_serve.specs.declared.server.Server.{Server}
use Rattle.tk_serve.specs.Seats.{Seat}
use Rattle.tk_serve.specs.Steps.{SeatsAndPackets, step, step_on}
use Rattle.tk_serve.specs.Stands.{HasApplied}
use Rattle.tk_serve.specs.Courses.{Told, IsShort, StopsBehind}
use Rattle.tk_serve.specs.Nexts.{TakesNext, TakesNextFront}

-- a packet came of so many bytes at most, and nothing is put
pub stops-behind : (most : ℕ) (p : PacketView) (left rest : Told) (gone now : Gone) →
    left ≡ before_taking (packet_bytes p) rest → length p.bytes ≤ most → now ≡ after_taking (Some p) gone →
    StopsBehind (8 + most) left rest gone now
stops-behind most p left rest gone now comes short took =
    record { takes = takes-packet most p left rest comes short; last = Some p; took = took }

-- a packet of a client came, and its bytes were taken as a frame of the client
pub record IsTakenOf (shape : Shape) (p : PacketView) (client : ℕ) (frame : List ℕ) (left rest : Told)
    (gone now : Gone) : Type 0 where
  pub low : 1 ≤ p.peer
  pub high : p.peer ≤ shape.clients
  pub short : IsShort shape p
  pub taken : left ≡ before_taking (packet_bytes p) rest
  pub client_is : client ≡ p.peer - 1
  pub frame_is : frame ≡ p.bytes
  pub took : now ≡ after_taking (Some p) gone

module _ (shape : Shape) (seats : List Seat) (p : PacketView) (client : ℕ) (frame : List ℕ) (left rest : Told)
    (gone now new : Gone) (came : IsTakenOf shape p client frame left rest gone now) (out : List PacketView)
    (told : out ≡ (step shape seats client frame).packets) where
  step-is : step shape seats client frame ≡ step_on shape seats p
  step-is = ap₂ (λ (k : ℕ) (bytes : List ℕ). step shape seats k bytes) came.client_is came.frame_is

  told-is : out ≡ (step_on shape seats p).packets
  told-is = told ∙ ap (λ (st : SeatsAndPackets). st.packets) step-is

  pub takes-next : (s : Server) → HasApplied shape (step shape seats client frame).seats s → HasPut out now new →
      TakesNext shape seats s left rest gone new
  takes-next s stands put =
      record {
        came = p;
        of_client = record { low = came.low; high = came.high };
        short = came.short;
        taken = came.taken;
        puts =
            dealt-bytes p out gone now new came.took put
            ∙ ap (λ ps. gained gone.bytes (packets_bytes ps)) told-is;
        order =
            dealt-order p out gone now new came.took put ∙ ap (λ ps. passed gone.past (dealt p ps)) told-is;
        stands = subst (λ (st : SeatsAndPackets). HasApplied shape st.seats s) step-is stands;
      }

  pub takes-front : HasPutFront out now new → TakesNextFront shape seats left rest gone new
  takes-front put =
      let front = dealt-order_front p out gone now new came.took put in
      record {
        came = p;
        of_client = record { low = came.low; high = came.high };
        short = came.short;
        taken = came.taken;
        count = put.count;
        puts =
            dealt-bytes_front p out gone now new came.took put
            ∙ ap (λ ps. gained gone.bytes (take put.count (packets_bytes ps))) told-is;
        so_far = front.0;
        order = front.1 ∙ ap (λ ps. passed gone.past (take front.0 (dealt p ps))) told-is;
      }

-- where a call answers no error what holds then holds
pub no_err-holds : {X Y P : Type 0} (r : Result X Y) → is_err r ≡ false → OnOk r P → P
no_err-holds (Ok x) none holds = holds
no_err-holds (Err e) none holds = absurd (cc (none))
