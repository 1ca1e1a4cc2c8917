use Rattle.std.proofs.Common.{◌∙◌, arith}
use Rattle.tk_frames.proofs.NumberList.{goes_on, is_done}
use Rattle.tk_frames.proofs.value.hits_of.Goals as goal

pub loop-preserved : goal.loop-preserved
loop-preserved c =
    record {
      len = omega (arith, c.split_at.ensures.back_len);
      rest = goes_on c.loop.hits.items c.push.new.self.items c.args.count c.loop.counter c.u32_at.result c.loop.rest.now c.split_at.result.1.now _ c.loop-test.true c.u32_at.ensures c.in_ok-push.ensures.items c.split_at.ensures.back c.loop.invariant.rest;
    }

pub returns : goal.returns
returns c = c.from_vec.ensures ∙ is_done c.loop.hits.items c.args.count c.loop.counter c.loop.rest.now _ c.loop-test.false c.loop.invariant.rest
