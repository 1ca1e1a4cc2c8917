-- What a closed cluster had.
use Rattle.std.specs.Prelude.{◌≡◌, ◌+◌, ℕ, List, [], ◌∷◌, length, All, replicate, slice_set}
use mathlib.Core.List.{IsPrefix}
use Rattle.atomic_table.specs.Seated.{TableId}
use Rattle.tk_shape.specs.declared.shape.Shape.{Shape}
use Rattle.tk_frames.specs.declared.entry.Placed.{Placed}
use Rattle.tk_order.specs.Legality.{of, IsLegal}
use Rattle.tk_cluster.specs.declared.set.EpochSet.{EpochSet}
use Rattle.tk_cluster.specs.Sets.{AreShown}
use Rattle.tk_cluster.specs.Passes.{Passing, own}
use Rattle.tk_cluster.specs.Tellings.{Telling, marks}

-- its order, and by client the epochs that were pinned
pub record Ended : Type 0 where
  pub order : List Placed
  pub epochs : List (List ℕ)

-- no two of these passes are of one client
abbrev pub Apart : List Passing → Type 0
Apart [] = Unit {0}
Apart (a ∷ xs) = All (λ b. ¬ (b.client ≡ a.client)) xs × Apart xs

-- all passes of a board, each once
pub record AllOnce (shape : Shape) (board : TableId) (passes : List Passing) : Type 0 where
  pub counted : length passes ≡ shape.clients
  pub of_board : All (λ a. a.reads.board ≡ board) passes
  pub apart : Apart passes

-- for each client what its pass pinned
abbrev pub by_client : List (List ℕ) → List Passing → List (List ℕ)
by_client epochs [] = epochs
by_client epochs (a ∷ xs) = by_client (slice_set epochs a.client a.reads.pinned) xs

-- The order begins with what the pass had seen, and has the writes that it ordered and no others
-- under its number. The shown sets begin with those that it knew.
pub record EndsPass (shown : List EpochSet) (order : List Placed) (a : Passing) : Type 0 where
  pub seen : IsPrefix a.seen order
  pub own : of (a.client + 1) order ≡ own a
  pub known : IsPrefix a.reads.shown shown

-- The order is legal, and the sets that the publisher had shown stand for their epochs in it. It
-- begins with what each had seen, and has what each ordered.
pub record Closes (shape : Shape) (passes : List Passing) (p : Telling) (c : Ended) : Type 0 where
  pub legal : IsLegal shape c.order
  pub shows : AreShown shape p.shown c.order
  pub each : All (EndsPass p.shown c.order) passes
  pub begins : IsPrefix p.seen c.order
  pub marks : of 0 c.order ≡ marks p
  pub epochs : c.epochs ≡ by_client (replicate shape.clients []) passes
