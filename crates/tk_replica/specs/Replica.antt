-- What a replica's state is seen as, and the entries that it stands for.
use Rattle.std.specs.Prelude.{◌≡◌, ℕ, ◌+◌, ◌<◌, ◌≤◌, List, length, All, slice_index_or}
use Rattle.tk_shape.specs.declared.shape.Shape.{Shape}
use Rattle.tk_frames.specs.declared.entry.Placed.{Placed}
use Rattle.tk_frames.specs.Order.{records}
use Rattle.tk_table.specs.Stands.{Kept, TableStandsFor}
use Rattle.tk_bloom.specs.Windows.{Kept as KeptPushes}
use Rattle.tk_replica.specs.declared.epoch.Epoch.{Epoch}
use Rattle.tk_frames.specs.InOrder.{IsOrder, mark_count}
use Rattle.tk_table.specs.Shown.{pushes_of}
use Rattle.tk_replica.specs.Epochs.{IsEpochOf}
use Rattle.tk_replica.specs.Shelf.{Shelved}
use Rattle.tk_replica.specs.Store.{Stored, window_with}

-- entries applied, the last epoch, the first that is kept, the table and the window as they are,
-- and the epochs from the first kept to the last
pub record ReplicaView : Type 0 where
  pub shape : Shape
  pub applied : ℕ
  pub last : ℕ
  pub floor : ℕ
  pub table : Kept
  pub window : KeptPushes
  pub kept : List Epoch

-- a state with these parts
abbrev pub replica_with : ℕ → Stored → Shelved → ReplicaView
replica_with applied store shelf =
    record {
      shape = store.shape;
      applied = applied;
      last = shelf.last;
      floor = shelf.floor;
      table = store.table;
      window = store.window;
      kept = shelf.epochs;
    }

-- the latest writes of a state were applied, and the epochs that it keeps have its shape
pub record IsReplica (s : ReplicaView) : Type 0 where
  pub latest : All (λ p. p ≤ s.applied) s.table.positions
  pub epochs_same : All (λ e. e.shape ≡ s.shape) s.kept

-- The state of a replica that has applied these entries. Table and window are those of all the
-- writes, and each epoch that is kept is that of the writes before its mark.
pub record StandsFor (shape : Shape) (E : List Placed) (s : ReplicaView) : Type 0 where
  pub same : s.shape ≡ shape
  pub order : IsOrder shape E
  pub table_same : s.table.shape ≡ shape
  pub table : TableStandsFor s.table (records E)
  pub window : s.window ≡ window_with shape (pushes_of shape (records E))
  pub applied : s.applied ≡ length E
  pub last : s.last ≡ mark_count E
  pub counted : s.floor + length s.kept ≡ s.last + 1
  pub some : s.floor ≤ s.last
  pub kept : (i : ℕ) (d : Epoch) → i < length s.kept →
      IsEpochOf shape E (s.floor + i) (slice_index_or s.kept i d)
