-- The ranges before a cut.
use Rattle.tk_shards.proofs.Dividing.{IsDividing}
use Rattle.tk_shards.proofs.opening.shards_of.Given as goal

abbrev pub invariant-loop-cut : goal.invariant-loop-cut
invariant-loop-cut g l =
    let B = g.B.Blocks in
    IsDividing (B.width l.blocks) (B.blocks l.blocks) l.division l.cut-index l.first l.shards.items
