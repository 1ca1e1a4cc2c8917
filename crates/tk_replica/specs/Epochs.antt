-- What an epoch stands for.
use Rattle.std.specs.Prelude.{◌≡◌, ℕ, Bool, List}
use Rattle.tk_shape.specs.declared.shape.Shape.{Shape}
use Rattle.tk_frames.specs.declared.entry.Placed.{Placed}
use Rattle.tk_frames.specs.Order.{Record, before}
use Rattle.tk_bloom.specs.Filters.{positions_of, marks_of, all_marked}
use Rattle.tk_table.specs.Table.{layout, blocks_of}
use Rattle.tk_replica.specs.declared.epoch.Epoch.{Epoch}
use Rattle.tk_frames.specs.InOrder.{mark_position}
use Rattle.tk_table.specs.Shown.{pushes_of, is_shown}

-- for each position of the filter, whether it is one of these writes in the window
abbrev pub filter_of : Shape → List Record → List Bool
filter_of shape R = marks_of shape.filter_bits (positions_of (pushes_of shape R))

-- the epoch is what these writes leave
pub record EpochStandsFor (shape : Shape) (R : List Record) (epoch : Epoch) : Type 0 where
  pub same : epoch.shape ≡ shape
  pub blocks : epoch.blocks.blocks ≡ blocks_of (layout shape R)
  pub filter : epoch.filter ≡ filter_of shape R
  pub shows : (hits : List ℕ) → all_marked epoch.filter hits ≡ is_shown shape R hits

-- it is epoch e of an order
pub record IsEpochOf (shape : Shape) (E : List Placed) (e : ℕ) (epoch : Epoch) : Type 0 where
  pub number : epoch.number ≡ e
  pub upto : epoch.upto ≡ mark_position E e
  pub stands : EpochStandsFor shape (before E e) epoch
