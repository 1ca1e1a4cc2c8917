-- What passes over a line: packets that are taken and put, one after the other.
use Rattle.std.specs.Prelude.{◌≡◌, ℕ, List, [], ◌∷◌, ◌++◌, take, map, Option, Some, None}
use Rattle.tk_io.specs.Content.{gained}
use Rattle.tk_packets.specs.Packets.{PacketView, packets_bytes}

-- a packet was taken, or put
pub data Passing : Type 0 where
  Took : PacketView → Passing
  Put : PacketView → Passing

-- What is gone over a line, where it tells it: the bytes that were put, and all that passed, in order.
pub record Gone : Type 0 where
  pub bytes : Option (List ℕ)
  pub past : Option (List Passing)

-- what passed when more did; a line that tells nothing still tells nothing
abbrev pub passed : Option (List Passing) → List Passing → Option (List Passing)
passed (Some past) more = Some (past ++ more)
passed None more = None

-- a packet that was taken, if one was
abbrev pub taken : Option PacketView → List Passing
taken None = []
taken (Some p) = Took p ∷ []

-- a packet that was taken, and behind it those that were put for it
abbrev pub dealt : PacketView → List PacketView → List Passing
dealt p answers = Took p ∷ map Put answers

-- what is gone when a packet was taken, if one was
abbrev pub after_taking : Option PacketView → Gone → Gone
after_taking None gone = gone
after_taking (Some p) gone = record gone { past = passed gone.past (Took p ∷ []) }

-- these packets were put
pub record HasPut (packets : List PacketView) (old new : Gone) : Type 0 where
  pub bytes : new.bytes ≡ gained old.bytes (packets_bytes packets)
  pub order : new.past ≡ passed old.past (map Put packets)

-- a front of their bytes was put, and none passed but a front of them
pub record HasPutFront (packets : List PacketView) (old new : Gone) : Type 0 where
  pub count : ℕ
  pub bytes : new.bytes ≡ gained old.bytes (take count (packets_bytes packets))
  pub so_far : ℕ
  pub order : new.past ≡ passed old.past (take so_far (map Put packets))

-- ---- a program that answers packets

-- Each packet, and what a program puts for it before it takes the next: a state after a packet, and what is put for
-- it, are given.
abbrev pub exchanges : {X : Type 0} → (X → PacketView → X) → (X → PacketView → List PacketView) → X →
    List PacketView → List Passing
exchanges next answers x [] = []
exchanges next answers x (p ∷ ps) = dealt p (answers x p) ++ exchanges next answers (next x p) ps
