-- A state made of the table and the window that some entries left.
use Rattle.std.specs.Prelude.{◌≡◌, ℕ, ◌⊎◌, List, [], ◌∷◌, ◌++◌, length}
use Rattle.tk_shape.specs.declared.shape.Shape.{Shape}
use Rattle.tk_frames.specs.declared.entry.Placed.{Placed}
use Rattle.tk_frames.specs.declared.entry.Entry.TheVariants.{Mark}
use Rattle.tk_frames.specs.Order.{records}
use Rattle.tk_frames.specs.InOrder.{IsOrder, mark_count}
use Rattle.tk_table.specs.Stands.{Kept, TableStandsFor}
use Rattle.tk_table.specs.Shown.{pushes_of}
use Rattle.tk_bloom.specs.Windows.{Kept as KeptPushes}
use Rattle.tk_replica.specs.declared.epoch.Epoch.{Epoch}
use Rattle.tk_replica.specs.Store.{IsTaken, window_with}
use Rattle.tk_replica.specs.Replica.{ReplicaView}

-- these entries end with a mark
pub record IsMarked (E : List Placed) : Type 0 where
  pub front : List Placed
  pub last : Placed
  pub number : ℕ
  pub mark : last.entry ≡ Mark number
  pub split : E ≡ front ++ last ∷ []

-- entries that end with a mark, or none
abbrev pub EndsWithMark : List Placed → Type 0
EndsWithMark E = (E ≡ []) ⊎ IsMarked E

-- Entries in order, none or with a mark at the end, left this table and this window. There are `applied` of them,
-- and `last` marks among them.
pub record HasLeft (shape : Shape) (E : List Placed) (applied last : ℕ) (table : Kept)
    (window : KeptPushes) : Type 0 where
  pub order : IsOrder shape E
  pub ends : EndsWithMark E
  pub applied_is : applied ≡ length E
  pub last_is : last ≡ mark_count E
  pub table_is : TableStandsFor table (records E)
  pub window_is : window ≡ window_with shape (pushes_of shape (records E))

-- the state has these parts, and keeps one epoch, which is made of them
pub record IsRestored (shape : Shape) (applied last : ℕ) (table : Kept) (window : KeptPushes)
    (s : ReplicaView) : Type 0 where
  pub same : s.shape ≡ shape
  pub applied_is : s.applied ≡ applied
  pub last_is : s.last ≡ last
  pub floor_is : s.floor ≡ last
  pub table_is : s.table ≡ table
  pub window_is : s.window ≡ window
  pub epoch : Epoch
  pub kept : s.kept ≡ epoch ∷ []
  pub taken : IsTaken shape last applied table window epoch
