-- What the entries of a run leave for its reads.
use Rattle.std.specs.Prelude.{◌≡◌, ◌-◌, ℕ, List, length}
use Rattle.tk_shape.specs.declared.shape.Shape.{Shape}
use Rattle.tk_shape.specs.Lengths.{width}
use Rattle.tk_bloom.specs.Filters.{positions_of, all_marked, is_shown as are_shown}
use Rattle.tk_bloom.specs.Windows.{Kept as KeptPushes}
use Rattle.tk_frames.specs.declared.entry.Placed.{Placed}
use Rattle.tk_frames.specs.InOrder.{mark_count}
use Rattle.tk_frames.specs.Order.{Record, records, before}
use Rattle.tk_table.specs.Shown.{pushes_of, is_shown, window_with}
use Rattle.tk_table.specs.Stands.{Kept}
use Rattle.tk_table.specs.Table.{layout, blocks_of}
use Rattle.tk_report.specs.Counts.{HasCounted}
use Rattle.tk_report.specs.declared.ledger.Ledger.{Ledger}
use Rattle.tk_report.specs.declared.marked.Marked.{Marked}

-- this is what a table and a window are
pub record IsTakenOf (table : Kept) (window : KeptPushes) (m : Marked) : Type 0 where
  pub blocks : m.blocks.blocks ≡ blocks_of table.slots
  pub counted : length m.blocks.blocks ≡ table.shape.buckets
  pub wide : m.blocks.width ≡ width table.shape
  pub shows : (hits : List ℕ) →
      all_marked m.filter hits ≡ are_shown (positions_of window.pushes) hits

-- this is what these writes leave
pub record IsLeftBy (shape : Shape) (R : List Record) (m : Marked) : Type 0 where
  pub blocks : m.blocks.blocks ≡ blocks_of (layout shape R)
  pub counted : length m.blocks.blocks ≡ shape.buckets
  pub wide : m.blocks.width ≡ width shape
  pub shows : (hits : List ℕ) → all_marked m.filter hits ≡ is_shown shape R hits

-- Of these entries, which are counted, there are the table and the window of all writes, and what the
-- writes before the last mark left, and those before the mark before it.
pub record Keeps (shape : Shape) (E : List Placed) (l : Ledger) : Type 0 where
  pub count : HasCounted shape E l.count
  pub window : l.window ≡ window_with shape (pushes_of shape (records E))
  pub last : l.last ≡ mark_count E
  pub newest : IsLeftBy shape (before E l.last) l.newest
  pub older : IsLeftBy shape (before E (l.last - 1)) l.older
