use Rattle.std.proofs.Common.{sym, ◌∙◌, arith}
use Rattle.std.proofs.lemmas.Result.{err_from_is_err_and}
use Rattle.tk_frames.proofs.Checking.{goes_on, stops, hits_fault-none}
use Rattle.tk_frames.proofs.check.check_hits.Goals as goal

pub returns-in_err-check : goal.returns-in_err-check
returns-in_err-check c =
    let p = err_from_is_err_and c.from_residual.result c.from_residual.ensures.1 in
    rw (p.1, p.2) (sym (stops c.args.shape.now c.args.shape.now.hits c.loop.counter c.u32_at-hit.result c.loop.rest.now _ c.in_err-check.field-0.0 c.loop-test.true c.u32_at-hit.ensures c.in_err-check.ensures c.loop.invariant.rest))

pub loop-preserved : goal.loop-preserved
loop-preserved c =
    record {
      len = omega (arith, c.split_at.ensures.back_len);
      rest = goes_on c.args.shape.now c.args.shape.now.hits c.loop.counter c.u32_at-hit.result c.loop.rest.now c.split_at.result.1.now _ c.loop-test.true c.u32_at-hit.ensures c.in_ok-check.ensures c.split_at.ensures.back c.loop.invariant.rest;
    }

pub returns : goal.returns
returns c = sym (c.loop.invariant.rest ∙ hits_fault-none c.args.shape.now c.args.shape.now.hits c.loop.counter c.loop.rest.now c.loop-test.false)
