-- One cell more stands after the others.
use Rattle.std.proofs.Common.{ℕ}
use Rattle.tk_script.specs.Sent.{sent}
use Rattle.tk_privacy.specs.Exchanging.{write_exchanged}
use Rattle.tk_privacy.proofs.ExchangingLaws.{next_cell}
use Rattle.tk_privacy.proofs.exchange.Exchange.push_turn.Goals as goal

pub loop-client-preserved : goal.loop-client-preserved
loop-client-preserved c =
    let e = c.args.self.now in
    let S = e.script.now in
    let cell = λ (k : ℕ).
    write_exchanged e.way S.shape e.cells.now.bytes.now c.args.turn k (sent S c.args.turn k)
    in
    next_cell cell c.loop-client.client c.args.out.now.items _ _ c.loop-client.invariant
    c.in_ok-push_write.ensures
