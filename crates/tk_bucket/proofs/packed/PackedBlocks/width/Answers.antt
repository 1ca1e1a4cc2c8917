use Rattle.std.proofs.Common.{map}
use Rattle.std.specs.Arc.{arc_value}
use Rattle.tk_bucket.proofs.PageBlocks.{block_sizes}
use Rattle.tk_bucket.proofs.packed.PackedBlocks.width.Goals as goal

pub returns-clause-each : goal.returns-clause-each
returns-clause-each c =
    let inside = c.self.inside in
    rw (← c.self.view_is) (block_sizes inside.cut.page (map arc_value inside.pages.items) c.self.invariant.each)
