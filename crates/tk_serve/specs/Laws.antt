-- That what a client is told only grows at its end.
use Rattle.std.specs.Prelude.{◌≡◌, ℕ, ◌<◌, List, ◌++◌}
use Rattle.std.specs.List.{AllByRecursion}
use Rattle.tk_shape.specs.declared.shape.Shape.{Shape}
use Rattle.tk_frames.specs.Laws.{AreBytes}
use Rattle.tk_packets.specs.Packets.{PacketView}
use Rattle.tk_serve.specs.Seats.{Seat, empty_seats, AreSeats}
use Rattle.tk_serve.specs.Told.{told}
use Rattle.tk_serve.specs.Steps.{gain, step_on, seats_after, IsOfClient}

-- a packet of a client, of bytes
pub record Comes (shape : Shape) (p : PacketView) : Type 0 where
  pub of_client : IsOfClient shape p
  pub of_bytes : AreBytes p.bytes

-- At first there is a seat for each client, and after each packet there still is.
abbrev pub AreSeatsFirst : Type 0
AreSeatsFirst = (shape : Shape) → AreSeats shape (empty_seats shape)

abbrev pub AreSeatsStill : Type 0
AreSeatsStill =
    (shape : Shape) (seats : List Seat) (p : PacketView) → AreSeats shape seats → Comes shape p →
    AreSeats shape (step_on shape seats p).seats

-- What a client is told after a packet is what it was told before, and behind it what it gains by the packet.
abbrev pub ToldGrows : Type 0
ToldGrows =
    (shape : Shape) (seats : List Seat) (p : PacketView) (c : ℕ) → AreSeats shape seats → Comes shape p →
    c < shape.clients →
    told shape (step_on shape seats p).seats c
    ≡ told shape seats c ++ gain shape seats (step_on shape seats p).seats c

-- What it was told after some packets stands in front of what it was told after more.
abbrev pub ToldStays : Type 0
ToldStays =
    (shape : Shape) (ps qs : List PacketView) (c : ℕ) → AllByRecursion (Comes shape) (ps ++ qs) → c < shape.clients →
    (more : List (List ℕ))
    × (told shape (seats_after shape (empty_seats shape) (ps ++ qs)) c
    ≡ told shape (seats_after shape (empty_seats shape) ps) c ++ more)
