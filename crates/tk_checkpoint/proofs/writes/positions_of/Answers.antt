use Rattle.std.proofs.Common.{ap, ◌∙◌, drop}
use Rattle.tk_checkpoint.specs.Saved.{entry_len}
use Rattle.tk_checkpoint.proofs.Windows.{room_for_others, positions_on, positions_done, all_read}
use Rattle.tk_checkpoint.proofs.writes.positions_of.Goals as goal

pub loop-preserved : goal.loop-preserved
loop-preserved c =
    let behind = c.split_at.ensures.back ∙ ap (λ n. drop n c.loop.rest.now) c.entry_len-len.ensures in
    record {
      long = room_for_others c.args.count c.loop.counter (entry_len c.args.shape.now) c.loop.rest.now
          c.split_at.result.1.now c.loop-test.true c.loop.invariant.long behind;
      left = positions_on c.args.shape.now.hits c.loop.positions.items c.push.new.self.items c.loop.rest.now
          c.split_at.result.1.now _ c.args.count c.loop.counter c.u64_at.result c.loop-test.true c.u64_at.ensures
          c.in_ok-push.ensures.items behind c.loop.invariant.left;
    }

pub returns : goal.returns
returns c =
    all_read c.loop.positions.items _ _
    (positions_done c.args.shape.now.hits c.args.count c.loop.counter c.loop.rest.now c.loop-test.false)
    c.loop.invariant.left
