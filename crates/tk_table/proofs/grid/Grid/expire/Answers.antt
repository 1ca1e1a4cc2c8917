use Rattle.std.proofs.Common.{ap}
use Rattle.tk_table.proofs.Grids.{cleared_grid, laid}
use Rattle.tk_table.proofs.Emptying.{expired_slots}
use Rattle.tk_table.proofs.grid.Grid.expire.Goals as goal

pub invariant_of-self : goal.invariant_of-self
invariant_of-self c =
    let pair = rw (← c.self.view_is) at c.requires.pair in
    cleared_grid c.self.inside.shape c.clear_in.new.buckets.contents _ c.args.write.position _
    (cleared_grid c.self.inside.shape c.self.inside.buckets.contents _ c.args.write.position _
    c.self.invariant pair.0 c.clear_in.ensures) pair.1 c.clear_in-2.ensures

pub returns : goal.returns
returns c =
    let own = rw (← c.self.view_is) at c.requires.own in
    rw (← c.self.view_is)
    (ap (laid c.self.inside.shape)
    (expired_slots c.self.inside.shape c.self.inside.buckets.contents
    c.clear_in.new.buckets.contents c.clear_in-2.new.buckets.contents c.args.write.position
    c.args.write.pair c.self.invariant own c.clear_in.ensures c.clear_in-2.ensures))
