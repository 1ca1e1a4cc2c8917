-- What the shown sets of epochs stand for.
use Rattle.std.specs.Prelude.{◌≡◌, ℕ, ◌≤◌, List, All, Some, slice_get}
use Rattle.std.specs.Arc.{arc_value}
use Rattle.tk_shape.specs.declared.shape.Shape.{Shape}
use Rattle.tk_frames.specs.declared.entry.Placed.{Placed}
use Rattle.tk_frames.specs.InOrder.{mark_count}
use Rattle.tk_replica.specs.Epochs.{IsEpochOf}
use Rattle.tk_cluster.specs.declared.set.EpochSet.{EpochSet}

-- The set is number e of an order: mark e stands there, and the epoch of each server is that of the
-- writes before it. So all have one number, one place in the order and one list of writes.
pub record StandsAtMark (shape : Shape) (E : List Placed) (e : ℕ) (set : EpochSet) : Type 0 where
  pub same : set.shape ≡ shape
  pub number : set.number ≡ e
  pub marked : e ≤ mark_count E
  pub servers : All (λ a. IsEpochOf shape E e (arc_value a)) set.epochs.items

-- each of these sets stands for the writes before the mark of its place
abbrev pub AreShown : Shape → List EpochSet → List Placed → Type 0
AreShown shape sets E =
    (e : ℕ) (set : EpochSet) → slice_get sets e ≡ Some set → StandsAtMark shape E e set
