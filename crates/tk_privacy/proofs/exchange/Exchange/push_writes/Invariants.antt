-- The cells of the turns so far stand after what was there.
use Rattle.std.proofs.Common.{◌≡◌, ◌++◌}
use Rattle.tk_privacy.specs.Privacy.{cells}
use Rattle.tk_privacy.specs.Exchanging.{writes_of_turn}
use Rattle.tk_privacy.proofs.exchange.Exchange.push_writes.Given as goal

abbrev pub invariant-loop-turn : goal.invariant-loop-turn
invariant-loop-turn l =
    let cell = writes_of_turn l.self.way l.self.script.now l.self.cells.now.bytes.now in
    l.out.items ≡ l.fn.out.items ++ cells l.turn cell
