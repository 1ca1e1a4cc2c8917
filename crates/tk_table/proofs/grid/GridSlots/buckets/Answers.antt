use Rattle.std.proofs.Common.{sym, ◌∙◌}
use Rattle.tk_table.proofs.Seen.{length-others}
use Rattle.tk_table.proofs.grid.GridSlots.buckets.Goals as goal

pub returns : goal.returns
returns c =
    rw (← c.self.view_is)
    (sym (length-others 0 c.self.inside.buckets.contents.table ∙ c.self.invariant.wide))
