-- The entries of a run as far as they came, and how many of their writes were displaced.
use Rattle.std.specs.Prelude.{◌≡◌, ◌≤◌, List, length, All}
use Rattle.tk_shape.specs.declared.shape.Shape.{Shape}
use Rattle.tk_frames.specs.declared.entry.Placed.{Placed}
use Rattle.tk_frames.specs.InOrder.{IsNext, IsOrder}
use Rattle.tk_frames.specs.Order.{records}
use Rattle.tk_table.specs.Stands.{TableStandsFor}
use Rattle.tk_report.specs.Displaced.{displaced_in}
use Rattle.tk_report.specs.declared.count.Count.{Count}

-- these entries came: their writes stand in the table
pub record HasCounted (shape : Shape) (E : List Placed) (c : Count) : Type 0 where
  pub order : IsOrder shape E
  pub same : c.table.shape ≡ shape
  pub table : TableStandsFor c.table (records E)
  pub latest : All (λ p. p ≤ c.entries) c.table.positions
  pub entries : c.entries ≡ length E
  pub displaced : c.displaced ≡ displaced_in shape E

-- and this one is next
pub record MayCount (p : Placed) (c : Count) : Type 0 where
  pub shape : Shape
  pub E : List Placed
  pub counted : HasCounted shape E c
  pub next : IsNext shape E p
