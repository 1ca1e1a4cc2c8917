use Rattle.tk_checkpoint.proofs.Windows.{room_for_others, numbers_on, numbers_done, all_read}
use Rattle.tk_checkpoint.proofs.writes.append_numbers.Goals as goal

pub loop-preserved : goal.loop-preserved
loop-preserved c =
    record {
      long = room_for_others c.args.count c.loop.counter 4 c.loop.rest.now c.split_at.result.1.now c.loop-test.true
          c.loop.invariant.long c.split_at.ensures.back;
      left = numbers_on c.loop.out.items c.push.new.self.items c.loop.rest.now c.split_at.result.1.now _
          c.args.count c.loop.counter c.u32_at.result c.loop-test.true c.u32_at.ensures c.in_ok-push.ensures.items
          c.split_at.ensures.back c.loop.invariant.left;
    }

pub returns : goal.returns
returns c =
    all_read c.loop.out.items _ _
    (numbers_done c.args.count c.loop.counter c.loop.rest.now c.loop-test.false) c.loop.invariant.left
