-- The cells of the logs so far stand after what was there.
use Rattle.std.proofs.Common.{◌≡◌, ◌++◌}
use Rattle.tk_privacy.specs.Privacy.{cells}
use Rattle.tk_privacy.specs.Exchanging.{numbers_of_log}
use Rattle.tk_privacy.proofs.exchange.Exchange.push_keyeds.Given as goal

abbrev pub invariant-loop-log : goal.invariant-loop-log
invariant-loop-log l =
    let cell = numbers_of_log l.self.way l.self.script.now l.self.cells.now.bytes.now in
    l.out.items ≡ l.fn.out.items ++ cells l.log cell
