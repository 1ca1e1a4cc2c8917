-- What the latest writes are seen as, and the epoch that they make.
use Rattle.std.specs.Prelude.{◌≡◌, ℕ, List, []}
use Rattle.tk_shape.specs.declared.shape.Shape.{Shape}
use Rattle.tk_table.specs.Stands.{Kept, TableStandsFor}
use Rattle.tk_table.specs.Table.{blocks_of}
use Rattle.tk_bloom.specs.Filters.{positions_of, marks_of, all_marked, is_shown}
use Rattle.tk_bloom.specs.Windows.{Kept as KeptPushes}
pub use Rattle.tk_table.specs.Shown.{window_with, pushed}
use Rattle.tk_replica.specs.declared.epoch.Epoch.{Epoch}

-- a table and a window of one shape
pub record Stored : Type 0 where
  pub shape : Shape
  pub table : Kept
  pub window : KeptPushes

pub record IsStore (shape : Shape) (table : Kept) (window : KeptPushes) : Type 0 where
  pub table_same : table.shape ≡ shape
  pub bits_same : window.bits ≡ shape.filter_bits
  pub hits_same : window.hits ≡ shape.hits

-- nothing of any write
pub record IsNewStore (shape : Shape) (s : Stored) : Type 0 where
  pub same : s.shape ≡ shape
  pub table_same : s.table.shape ≡ shape
  pub table : TableStandsFor s.table []
  pub window : s.window ≡ window_with shape []

-- the epoch has this number, and is what this table and this window show
pub record IsTaken (shape : Shape) (number upto : ℕ) (table : Kept) (pushes : KeptPushes)
    (epoch : Epoch) : Type 0 where
  pub same : epoch.shape ≡ shape
  pub number_is : epoch.number ≡ number
  pub upto_is : epoch.upto ≡ upto
  pub blocks : epoch.blocks.blocks ≡ blocks_of table.slots
  pub filter : epoch.filter ≡ marks_of pushes.bits (positions_of pushes.pushes)
  pub shows : (hits : List ℕ) →
      all_marked epoch.filter hits ≡ is_shown (positions_of pushes.pushes) hits
