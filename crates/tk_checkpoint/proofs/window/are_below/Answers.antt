use Rattle.std.proofs.Common.{sym, ◌∙◌}
use Rattle.tk_checkpoint.proofs.Windows.{room_for_others, below_on, below_stops, below_done}
use Rattle.tk_checkpoint.proofs.window.are_below.Goals as goal

pub returns-then-u32_at-limit : goal.returns-then-u32_at-limit
returns-then-u32_at-limit c =
    sym (below_stops c.args.limit c.args.count c.loop.counter c.u32_at.result c.loop.rest.now _ c.loop-test.true
    c.u32_at.ensures c.if-u32_at-limit.true c.loop.invariant.left)

pub loop-preserved : goal.loop-preserved
loop-preserved c =
    record {
      long = room_for_others c.args.count c.loop.counter 4 c.loop.rest.now c.split_at.result.1.now c.loop-test.true
          c.loop.invariant.long c.split_at.ensures.back;
      left = below_on c.args.limit c.args.count c.loop.counter c.u32_at.result c.loop.rest.now c.split_at.result.1.now _
          c.loop-test.true c.u32_at.ensures c.if-u32_at-limit.false c.split_at.ensures.back c.loop.invariant.left;
    }

pub returns : goal.returns
returns c =
    sym (c.loop.invariant.left
    ∙ below_done c.args.limit c.args.count c.loop.counter c.loop.rest.now c.loop-test.false)
