use Rattle.std.proofs.Common.{refl, subst, sym}
use Rattle.tk_table.specs.Inside.{IsGrid}
use Rattle.tk_table.proofs.Spelled.{length-table_spelled, length-bucket_spelled}
use Rattle.tk_table.proofs.grid.Grid.restore.Goals as goal

pub invariant_of-result : goal.invariant_of-result
invariant_of-result c =
    let shape = c.args.shape.now in
    let bytes = c.args.bytes.now in
    subst (IsGrid shape) (sym c.in_ok-restore.ensures.contents) (record {
      buckets = refl;
      depth = refl;
      block = refl;
      wide = length-table_spelled shape bytes;
      deep = λ b low. length-bucket_spelled shape bytes b low;
      own = c.requires.own;
    })
