-- The cells of one turn more stand after the others, and at the end all do.
use Rattle.std.proofs.Common.{◌≡◌, ◌∙◌, ◌++◌, ℕ, ap, arith}
use Rattle.tk_shape.specs.Lengths.{turn_count}
use Rattle.tk_privacy.specs.Privacy.{cells}
use Rattle.tk_privacy.specs.Hiding.{reads_of_turn}
use Rattle.tk_privacy.proofs.ExchangingLaws.{next_cell}
use Rattle.tk_privacy.proofs.hidden_cells.Hiding.push_reads.Goals as goal

pub loop-turn-preserved : goal.loop-turn-preserved
loop-turn-preserved c =
    let e = c.args.self.now in
    let tape = e.cells.now in
    next_cell (reads_of_turn tape.shape.now e.reads.now e.hidden tape.bytes.now) c.loop-turn.turn
    c.args.out.now.items _ _ c.loop-turn.invariant c.in_ok-push_turn.ensures

pub returns : goal.returns
returns c =
    let e = c.args.self.now in
    let tape = e.cells.now in
    let cell = reads_of_turn tape.shape.now e.reads.now e.hidden tape.bytes.now in
    let end : c.loop-turn.turn ≡ turn_count tape.shape.now = omega arith in
    c.loop-turn.invariant ∙ ap (λ (n : ℕ). c.args.out.now.items ++ cells n cell) end
