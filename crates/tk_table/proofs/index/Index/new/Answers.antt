use Rattle.std.proofs.Common.{◌≡◌, ◌*◌, replicate, rules, false}
use Rattle.std.specs.Prelude.{◌==◌}
use Rattle.tk_table.proofs.Used.{index_begun, rows_begun}
use Rattle.tk_table.proofs.index.Index.new.Goals as goal

pub invariant_of-result : goal.invariant_of-result
invariant_of-result c =
    let a = c.args in
    let os : c.in_ok-vec.field-0.items ≡ replicate (a.buckets * a.depth) 0 = search rules in
    let us : c.in_ok-vec-2.field-0.items ≡ replicate (a.buckets * a.depth) false = search rules in
    let ms : c.in_ok-vec-3.field-0.items ≡ replicate a.buckets (a.depth == 0) = search rules in
    index_begun a.buckets a.depth _ _ _ os us ms c.requires.buckets c.requires.depth

pub returns : goal.returns
returns c =
    let a = c.args in
    let os : c.in_ok-vec.field-0.items ≡ replicate (a.buckets * a.depth) 0 = search rules in
    let us : c.in_ok-vec-2.field-0.items ≡ replicate (a.buckets * a.depth) false = search rules in
    rows_begun a.buckets a.depth _ _ os us
