-- A cluster in which one client after the other writes: what is known of each pass and of the publisher.
use Rattle.std.specs.Prelude.{◌≡◌, ℕ, ◌+◌, ◌<◌, List, ◌++◌, length, flat_map, slice_index_or}
use mathlib.Core.List.{IsPrefix}
use Rattle.tk_shape.specs.declared.shape.Shape.{Shape}
use Rattle.tk_frames.specs.declared.entry.Placed.{Placed}
use Rattle.tk_frames.specs.InOrder.{IsNext, IsOrder, mark_count}
use Rattle.tk_frames.specs.Spelling.{placed_frame}
use Rattle.tk_order.specs.Legality.{of}
use Rattle.tk_cluster.specs.Passes.{Passing, own}
use Rattle.tk_cluster.specs.Tellings.{Telling, marks}

-- the pass of client c: it ordered the client's entries of these at their places, and knows all sets
-- that are shown, the last one as the greatest that it pinned or was told of
pub record IsPassOf (E : List Placed) (p : Telling) (c : ℕ) (a : Passing) : Type 0 where
  pub client : a.client ≡ c
  pub ordered : own a ≡ of (c + 1) E
  pub board : a.reads.board ≡ p.board
  pub shown : IsPrefix p.shown a.reads.shown
  pub known : a.reads.known ≡ mark_count E

-- All passes have ordered the writes of these entries, and the publisher as many marks as stand among
-- them, and shown a set for each. Whatever else one has seen, where all meet it is these entries.
pub record HaveOrdered (shape : Shape) (E : List Placed) (passes : List Passing) (p : Telling)
    : Type 0 where
  pub order : IsOrder shape E
  pub counted : length passes ≡ shape.clients
  pub each : (c : ℕ) (d : Passing) → c < length passes →
      IsPassOf E p c (slice_index_or passes c d)
  pub marked : length (marks p) ≡ mark_count E
  pub shown : length p.shown ≡ mark_count E + 1

-- and this entry is next
pub record MayOrder (shape : Shape) (e : Placed) (passes : List Passing) (p : Telling) : Type 0 where
  pub E : List Placed
  pub have : HaveOrdered shape E passes p
  pub next : IsNext shape E e

-- each of these passes changed so
pub record EachChanged (Changes : Passing → Passing → Type 0) (old new : List Passing) : Type 0 where
  pub counted : length new ≡ length old
  pub each : (c : ℕ) (d : Passing) → c < length old →
      Changes (slice_index_or old c d) (slice_index_or new c d)

-- ---- the entries of a turn

-- The passes of a cluster of this shape have ordered the second entries after the first. Of the second
-- alone the frames are seen, and all are counted.
pub record OrderedAfter (own shape : Shape) (E F : List Placed) (passes : List Passing) (p : Telling)
    (count : ℕ) (bytes : List ℕ) : Type 0 where
  pub same : shape ≡ own
  pub ordered : HaveOrdered shape (E ++ F) passes p
  pub counted : count ≡ length (E ++ F)
  pub seen : bytes ≡ flat_map placed_frame F
