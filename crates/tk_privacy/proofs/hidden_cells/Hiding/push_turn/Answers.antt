-- One cell more stands after the others.
use Rattle.tk_privacy.specs.Hiding.{hidden_read}
use Rattle.tk_privacy.proofs.ExchangingLaws.{next_cell}
use Rattle.tk_privacy.proofs.hidden_cells.Hiding.push_turn.Goals as goal

pub loop-client-preserved : goal.loop-client-preserved
loop-client-preserved c =
    let e = c.args.self.now in
    let tape = e.cells.now in
    next_cell (hidden_read tape.shape.now e.reads.now e.hidden tape.bytes.now c.args.turn)
    c.loop-client.client c.args.out.now.items _ _ c.loop-client.invariant
    c.in_ok-push_read.ensures
