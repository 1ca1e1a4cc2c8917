-- The cells of the turns so far stand after what was there.
use Rattle.std.proofs.Common.{◌≡◌, ◌++◌}
use Rattle.tk_privacy.specs.Privacy.{cells}
use Rattle.tk_privacy.specs.Hiding.{reads_of_turn}
use Rattle.tk_privacy.proofs.hidden_cells.Hiding.push_reads.Given as goal

abbrev pub invariant-loop-turn : goal.invariant-loop-turn
invariant-loop-turn l =
    let tape = l.self.cells.now in
    let cell = reads_of_turn tape.shape.now l.self.reads.now l.self.hidden tape.bytes.now in
    l.out.items ≡ l.fn.out.items ++ cells l.turn cell
