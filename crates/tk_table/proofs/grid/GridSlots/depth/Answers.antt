use Rattle.tk_table.proofs.Grids.{searchable_grid}
use Rattle.tk_table.proofs.grid.GridSlots.depth.Goals as goal

pub returns-clause-table : goal.returns-clause-table
returns-clause-table c =
    rw (← c.self.view_is)
    (searchable_grid c.self.inside.shape c.self.inside.buckets.contents c.self.invariant)
