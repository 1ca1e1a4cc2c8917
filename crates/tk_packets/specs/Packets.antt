-- Packets: what goes over a program's two streams, and what a source has in front.
use Rattle.std.specs.Prelude.{◌≡◌, ℕ, ◌+◌, ◌<◌, ◌≤◌, ◌⊎◌, List, [], ◌++◌, length, flat_map, Option, Some, None}
use Rattle.tk_io.specs.Content.{before_taking, emptied}
use Rattle.tk_frames.specs.Spelling.{be32}
use Rattle.tk_frames.specs.Fields.{number_at}

-- whom it comes from or goes to, and its bytes; peer 0 is the program's own host
pub record PacketView : Type 0 where
  pub peer : ℕ
  pub bytes : List ℕ

abbrev pub packet : ℕ → List ℕ → PacketView
packet peer bytes = record { peer = peer; bytes = bytes }

-- its one spelling: the peer, how many bytes follow, and these
unfoldable pub packet_bytes : PacketView → List ℕ
packet_bytes p = be32 p.peer ++ be32 (length p.bytes) ++ p.bytes

-- packets one after the other
abbrev pub packets_bytes : List PacketView → List ℕ
packets_bytes ps = flat_map packet_bytes ps

-- a packet if there is one
abbrev pub spelling : Option PacketView → List ℕ
spelling None = []
spelling (Some p) = packet_bytes p

-- ---- no packet

-- some bytes, but fewer than those of the packet that they begin, whose length would be allowed
pub record IsCut (most : ℕ) (bytes : List ℕ) : Type 0 where
  pub some : 0 < length bytes
  pub within : (length bytes < 8) ⊎ ((number_at 4 bytes ≤ most) × (length bytes < 8 + number_at 4 bytes))

-- the peer and the length of a packet with more bytes than are allowed
pub record IsLong (most : ℕ) (bytes : List ℕ) : Type 0 where
  pub head : length bytes ≡ 8
  pub over : most < number_at 4 bytes

-- all that was left is taken, and it is cut
pub record EndsWithin (most : ℕ) (old new : Option (List ℕ)) : Type 0 where
  pub taken : List ℕ
  pub all : old ≡ before_taking taken new
  pub end : new ≡ emptied old
  pub cut : IsCut most taken

-- a longer packet comes, of which nothing is taken but its peer and its length
pub record ComesLong (most : ℕ) (old new : Option (List ℕ)) : Type 0 where
  pub taken : List ℕ
  pub front : old ≡ before_taking taken new
  pub long : IsLong most taken

-- at most so many bytes are taken
pub record TakesAtMost (most : ℕ) (old new : Option (List ℕ)) : Type 0 where
  pub taken : List ℕ
  pub front : old ≡ before_taking taken new
  pub few : length taken ≤ most
