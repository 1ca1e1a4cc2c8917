use Rattle.std.proofs.Common.{ap, ◌++◌, ◌∙◌, drop}
use Rattle.tk_frames.specs.Fields.{numbers}
use Rattle.tk_checkpoint.specs.Saved.{entry_len}
use Rattle.tk_checkpoint.proofs.Windows.{room_for_others, hits_on, hits_done, all_read}
use Rattle.tk_checkpoint.proofs.writes.hits_of.Goals as goal

pub loop-preserved : goal.loop-preserved
loop-preserved c =
    let behind = c.split_at-in-loop.ensures.back ∙ ap (λ n. drop n c.loop.rest.now) c.entry_len-len.ensures in
    let here = ap (numbers c.args.shape.now.hits) c.split_at.ensures.back in
    record {
      long = room_for_others c.args.count c.loop.counter (entry_len c.args.shape.now) c.loop.rest.now
          c.split_at-in-loop.result.1.now c.loop-test.true c.loop.invariant.long behind;
      left = hits_on c.args.shape.now.hits c.loop.hits.items c.append_numbers.new.out.items c.loop.rest.now
          c.split_at-in-loop.result.1.now _ c.args.count c.loop.counter c.loop-test.true
          (c.in_ok-append_numbers.ensures ∙ ap (λ ns. c.loop.hits.items ++ ns) here) behind c.loop.invariant.left;
    }

pub returns : goal.returns
returns c =
    all_read c.loop.hits.items _ _
    (hits_done c.args.shape.now.hits c.args.count c.loop.counter c.loop.rest.now c.loop-test.false)
    c.loop.invariant.left
