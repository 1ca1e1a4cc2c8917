-- What the publisher knows, and what each call does to it.
use Rattle.std.specs.Prelude.{◌≡◌, ◌⊎◌, ℕ, ◌+◌, ◌≤◌, Some, List, [], ◌∷◌, ◌++◌, length}
use mathlib.Core.List.{IsPrefix}
use Rattle.atomic_table.specs.Seated.{TableId}
use Rattle.tk_shape.specs.declared.shape.Shape.{Shape}
use Rattle.tk_frames.specs.declared.entry.Placed.{Placed}
use Rattle.tk_order.specs.Legality.{of}
use Rattle.tk_order.specs.Seats.{Seated}
use Rattle.tk_board.specs.Boards.{Known}
use Rattle.tk_replica.specs.Following.{marks_among}
use Rattle.tk_cluster.specs.declared.set.EpochSet.{EpochSet}
use Rattle.tk_cluster.specs.Sets.{StandsAtMark, AreShown}

-- the list of entries that the publisher has seen, and the sets that it has shown
pub record Telling : Type 0 where
  pub seen : List Placed
  pub board : TableId
  pub shown : List EpochSet

-- what it tells
abbrev pub told_of : Telling → Known EpochSet
told_of p = record { board = p.board; list = p.shown }

-- the marks, which it alone orders
abbrev pub marks : Telling → List Placed
marks p = of 0 p.seen

-- What lies in the publisher. The sets that it has shown stand for the writes before their marks.
-- So many marks were ordered as there are shown sets, the first one not counted, or one more. The
-- last of them stands at `marked`.
pub record IsPublisher (shape : Shape) (seat : Seated) (board : Known EpochSet)
    (marked ordered shown : ℕ) : Type 0 where
  pub number : seat.number ≡ Some 0
  pub counted : length board.list ≡ shown + 1
  pub shows : AreShown shape board.list seat.seen
  pub within : marked ≤ length seat.seen
  pub among : marks_among marked seat.seen ≡ ordered
  pub made : length (of 0 seat.seen) ≡ ordered
  pub due : (ordered ≡ shown) ⊎ (ordered ≡ shown + 1)

-- it has seen more, and shown nothing
pub record Grows (a b : Telling) : Type 0 where
  pub board : b.board ≡ a.board
  pub shown : b.shown ≡ a.shown
  pub seen : IsPrefix a.seen b.seen

-- one set more is shown, the number of which is that of the last mark
pub record Published (shape : Shape) (a b : Telling) : Type 0 where
  pub board : b.board ≡ a.board
  pub seen : IsPrefix a.seen b.seen
  pub set : EpochSet
  pub shown : b.shown ≡ a.shown ++ set ∷ []
  pub stands : StandsAtMark shape b.seen (length a.shown) set
  pub marks : length (marks b) ≡ length a.shown

-- nothing more is shown; the mark of the next set may be ordered
pub record Withheld (a b : Telling) : Type 0 where
  pub board : b.board ≡ a.board
  pub shown : b.shown ≡ a.shown
  pub seen : IsPrefix a.seen b.seen
  pub marks : (marks b ≡ marks a) ⊎ (length (marks b) ≡ length a.shown)
