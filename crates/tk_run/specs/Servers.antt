-- The servers of a run: the entries that the replica of each has applied, and what it saw.
use Rattle.std.specs.Prelude.{◌≡◌, ℕ, ◌+◌, ◌-◌, ◌<◌, ◌≤◌, List, [], ◌++◌, length, map, flat_map, slice_index_or}
use Rattle.std.specs.List.{AllByRecursion}
use Rattle.tk_shape.specs.declared.shape.Shape.{Shape}
use Rattle.tk_frames.specs.declared.entry.Placed.{Placed}
use Rattle.tk_frames.specs.declared.read_frame.ReadFrame.{ReadFrame}
use Rattle.tk_frames.specs.Ranges.{IsRead}
use Rattle.tk_frames.specs.Spelling.{placed_frame, read_frame}
use Rattle.tk_frames.specs.Order.{before}
use Rattle.tk_frames.specs.InOrder.{IsNext, IsOrder, mark_count}
use Rattle.tk_replica.specs.Replica.{StandsFor}
use Rattle.tk_report.specs.Displaced.{displaced_in}
use Rattle.tk_report.specs.Exchange.{bytes_of, with_reply}
use Rattle.tk_run.specs.declared.server.Server.{Server}
use Rattle.tk_run.specs.declared.servers.Servers.{Servers}

-- ---- what a server holds

-- Its replica has applied these entries and keeps no epoch before the last two, it saw these bytes
-- since they were last given away, and it counted the displaced writes.
pub record IsServerAt (shape : Shape) (E : List Placed) (bytes : List ℕ) (s : Server) : Type 0 where
  pub state : StandsFor shape E s.state
  pub floor : mark_count E - 1 ≤ s.state.floor
  pub seen : s.seen.items ≡ bytes
  pub displaced : s.displaced ≡ displaced_in shape E

-- A server for each number from 1 on. Es gives what each holds, which is the same for all where none
-- was given anything else, and seen what each saw.
pub record AreServers (shape : Shape) (Es : ℕ → List Placed) (seen : ℕ → List ℕ)
    (servers : List Server) : Type 0 where
  pub counted : length servers ≡ shape.servers
  pub each : (i : ℕ) (d : Server) → i < length servers →
      IsServerAt shape (Es (i + 1)) (seen (i + 1)) (slice_index_or servers i d)

-- whatever a server holds and saw, and whatever all hold and each saw
abbrev pub WhateverItHolds : Server → (Shape → List Placed → List ℕ → Type 0) → Type 0
WhateverItHolds s says =
    (shape : Shape) (E : List Placed) (bytes : List ℕ) → IsServerAt shape E bytes s → says shape E bytes

abbrev pub WhateverTheyHold :
    List Server → (Shape → (ℕ → List Placed) → (ℕ → List ℕ) → Type 0) → Type 0
WhateverTheyHold servers says =
    (shape : Shape) (Es : ℕ → List Placed) (seen : ℕ → List ℕ) → AreServers shape Es seen servers →
    says shape Es seen

-- all hold these entries
abbrev pub alike : List Placed → ℕ → List Placed
alike E j = E

-- a server has seen nothing that isn't given away
abbrev pub nothing_seen : ℕ → List ℕ
nothing_seen j = []

-- where all hold the same, whatever it is, and what each saw is given away
abbrev pub WhereAlike : Shape → List Server → (List Placed → Type 0) → Type 0
WhereAlike shape servers says =
    (E : List Placed) → AreServers shape (alike E) nothing_seen servers → says E

-- ---- what holds of each, whatever it was given

-- It has seen as many marks as there are among these entries, whatever its table has, and no more writes
-- were displaced than these are.
pub record IsReadyServer (shape : Shape) (E : List Placed) (s : Server) : Type 0 where
  pub same : s.state.shape ≡ shape
  pub last : s.state.last ≡ mark_count E
  pub some : s.state.floor ≤ s.state.last
  pub displaced : s.displaced ≤ length E

pub record AreReady (shape : Shape) (E : List Placed) (servers : List Server) : Type 0 where
  pub counted : length servers ≡ shape.servers
  pub order : IsOrder shape E
  pub each : (i : ℕ) (d : Server) → i < length servers →
      IsReadyServer shape E (slice_index_or servers i d)

-- ---- taking entries

-- a server for which this entry is the next one
pub record MayTakeEntry (p : Placed) (s : Server) : Type 0 where
  pub shape : Shape
  pub E : List Placed
  pub is : IsReadyServer shape E s
  pub next : IsNext shape E p

-- servers for which it is
pub record MayTakeAll (p : Placed) (servers : List Server) : Type 0 where
  pub shape : Shape
  pub E : List Placed
  pub are : AreReady shape E servers
  pub next : IsNext shape E p

-- what each server saw of entries that it took
abbrev pub taken_seen : List Placed → ℕ → List ℕ
taken_seen F j = flat_map placed_frame F

-- entries behind those that each holds
abbrev pub with_more : (ℕ → List Placed) → List Placed → ℕ → List Placed
with_more Es F j = Es j ++ F

-- Servers that took the second entries after the first, and each behind those that it held.
pub record TookOn (was : Servers) (shape : Shape) (E F : List Placed) (servers : Servers)
    : Type 0 where
  pub taken : servers.taken ≡ length (E ++ F)
  pub ready : AreReady shape (E ++ F) servers.list.items
  pub are : (Es : ℕ → List Placed) → AreServers shape Es nothing_seen was.list.items →
      AreServers shape (with_more Es F) (taken_seen F) servers.list.items

-- ---- reads

-- what a server sees of reads that it answers: each with its reply
unfoldable pub answered : Shape → List Placed → List ReadFrame → List ℕ
answered shape E reads = flat_map (λ r. bytes_of (with_reply shape (before E r.epoch) r)) reads

-- these are the frames of reads that are in range
pub record AreReadFrames (shape : Shape) (reads : List ReadFrame) (frames : List (List ℕ)) : Type 0 where
  pub in_range : AllByRecursion (IsRead shape) reads
  pub spelled : frames ≡ map read_frame reads

-- whatever a server holds, and whichever reads it is asked for
abbrev pub WhicheverReads :
    Server → List (List ℕ) → (Shape → List Placed → List ℕ → List ReadFrame → Type 0) → Type 0
WhicheverReads s frames says =
    (shape : Shape) (E : List Placed) (bytes : List ℕ) (reads : List ReadFrame) →
    IsServerAt shape E bytes s → AreReadFrames shape reads frames → says shape E bytes reads
