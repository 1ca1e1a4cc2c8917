use Rattle.std.proofs.Common.{[]}
use Rattle.tk_table.proofs.Grids.{searchable_grid}
use Rattle.tk_table.proofs.grid.GridSlots.leads_to_full.Goals as goal

pub leads_to_full-requires-clause-named : goal.leads_to_full-requires-clause-named
leads_to_full-requires-clause-named c =
    let within = rw (← c.self.view_is) at c.requires.within in
    (searchable_grid c.self.inside.shape c.self.inside.buckets.contents c.self.invariant).named
    c.args.bucket [] within
