-- The cells of one log more stand after the others, and at the end all do.
use Rattle.std.proofs.Common.{◌≡◌, ◌∙◌, ◌++◌, ℕ, ap, arith}
use Rattle.tk_privacy.specs.Privacy.{cells}
use Rattle.tk_privacy.specs.Exchanging.{numbers_of_log}
use Rattle.tk_privacy.proofs.ExchangingLaws.{next_cell}
use Rattle.tk_privacy.proofs.exchange.Exchange.push_keyeds.Goals as goal

pub loop-log-preserved : goal.loop-log-preserved
loop-log-preserved c =
    let e = c.args.self.now in
    next_cell (numbers_of_log e.way e.script.now e.cells.now.bytes.now) c.loop-log.log
    c.args.out.now.items _ _ c.loop-log.invariant c.in_ok-push_log.ensures

pub returns : goal.returns
returns c =
    let e = c.args.self.now in
    let cell = numbers_of_log e.way e.script.now e.cells.now.bytes.now in
    let end : c.loop-log.log ≡ e.script.now.shape.logs = omega arith in
    c.loop-log.invariant ∙ ap (λ (n : ℕ). c.args.out.now.items ++ cells n cell) end
