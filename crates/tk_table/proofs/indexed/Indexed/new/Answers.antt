use Rattle.std.proofs.Common.{◌≡◌, sym, ap, ◌∙◌, rules}
use Rattle.tk_bucket.specs.Table.{Contents, empty_table}
use Rattle.tk_table.specs.Table.{others_from}
use Rattle.tk_table.proofs.Rows.{others-empty}
use Rattle.tk_table.proofs.indexed.Indexed.new.Goals as goal

pub invariant_of-result : goal.invariant_of-result
invariant_of-result c =
    let a = c.args in
    let empty : Contents =
    record {
      buckets = a.buckets;
      depth = a.depth;
      block = a.block;
      table = empty_table a.buckets a.depth a.block;
    }
    in
    let e : c.in_ok-new.field-0.contents ≡ empty = search rules in
    c.in_ok-new-2.ensures ∙ sym (others-empty a.buckets a.depth a.block)
    ∙ ap (λ (n : Contents). others_from 0 n.table) (sym e)
