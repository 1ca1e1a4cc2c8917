use Rattle.std.proofs.Common.{arith}
use Rattle.tk_bloom.proofs.Cutting.{window-drop}
use Rattle.tk_bloom.proofs.tally.Tally.keep_last.Goals as goal

pub loop-self-preserved : goal.loop-self-preserved
loop-self-preserved c =
    let more = window-drop c.args.count c.loop-self.self.positions (omega arith) in
    rw (c.pop_front.ensures, more) c.loop-self.invariant
