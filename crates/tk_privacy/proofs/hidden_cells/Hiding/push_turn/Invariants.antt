-- The cells of the clients so far stand after what was there.
use Rattle.std.proofs.Common.{◌≡◌, ◌++◌}
use Rattle.tk_privacy.specs.Privacy.{cells}
use Rattle.tk_privacy.specs.Hiding.{hidden_read}
use Rattle.tk_privacy.proofs.hidden_cells.Hiding.push_turn.Given as goal

abbrev pub invariant-loop-client : goal.invariant-loop-client
invariant-loop-client l =
    let tape = l.self.cells.now in
    let cell = hidden_read tape.shape.now l.self.reads.now l.self.hidden tape.bytes.now l.turn in
    l.out.items ≡ l.fn.out.items ++ cells l.client cell
