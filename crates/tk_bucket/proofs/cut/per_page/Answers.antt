use Rattle.std.proofs.Common.{arith, inl, inr}
use Rattle.tk_bucket.proofs.Powers.{doubled}
use Rattle.tk_bucket.proofs.PerPage.{doubled_len, per_page_found, few_doublings}
use Rattle.tk_bucket.proofs.cut.per_page.Goals as goal

pub overflow_add-shift : goal.overflow_add-shift
overflow_add-shift c =
    let l = c.loop-len in
    let few = few_doublings l.shift l.per c.args.buckets l.invariant.power l.invariant.few c.requires.most in
    omega (arith, few)

pub loop-len-preserved : goal.loop-len-preserved
loop-len-preserved c =
    let l = c.loop-len in
    record {
      power = doubled l.shift l.per l.invariant.power;
      len = doubled_len l.per c.args.width l.len l.invariant.len;
      low = omega (arith, l.invariant.low);
      some = omega (arith, l.invariant.some);
      few = c.if-per-buckets.true;
      small = λ _. omega (arith, c.loop-len-test.true);
      bound = omega (arith, c.loop-len-test.true);
    }

pub returns-else-per-buckets-clause-per_page : goal.returns-else-per-buckets-clause-per_page
returns-else-per-buckets-clause-per_page c =
    let l = c.loop-len in
    let i = l.invariant in
    per_page_found c.args.buckets c.args.width l.per l.shift l.len i.power i.few i.len i.small
    (inr (omega (arith, c.if-per-buckets.false)))

pub returns-else-per-buckets-clause-few : goal.returns-else-per-buckets-clause-few
returns-else-per-buckets-clause-few c =
    let l = c.loop-len in
    few_doublings l.shift l.per c.args.buckets l.invariant.power l.invariant.few c.requires.most

pub returns-after-loop-len-clause-per_page : goal.returns-after-loop-len-clause-per_page
returns-after-loop-len-clause-per_page c =
    let l = c.loop-len in
    let i = l.invariant in
    per_page_found c.args.buckets c.args.width l.per l.shift l.len i.power i.few i.len i.small
    (inl (omega (arith, c.loop-len-test.false)))

pub returns-after-loop-len-clause-few : goal.returns-after-loop-len-clause-few
returns-after-loop-len-clause-few c =
    let l = c.loop-len in
    few_doublings l.shift l.per c.args.buckets l.invariant.power l.invariant.few c.requires.most
