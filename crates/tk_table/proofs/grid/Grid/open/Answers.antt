use Rattle.std.proofs.Common.{◌≡◌, rules, arith}
use Rattle.std.proofs.lemmas.Grind.{common_steps}
use Rattle.tk_bucket.specs.Table.{Contents, empty_table}
use Rattle.tk_table.proofs.grid.Grid.open.Goals as goal

pub invariant_of-result : goal.invariant_of-result
invariant_of-result c =
    let shape = c.args.shape.now in
    let empty : Contents =
    record {
      buckets = shape.buckets;
      depth = shape.depth;
      block = shape.block;
      table = empty_table shape.buckets shape.depth shape.block;
    }
    in
    let e : c.in_ok-new.field-0.contents ≡ empty = search rules in
    rw e (grind (arith, common_steps))
