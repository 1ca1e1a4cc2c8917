-- The cells of one turn more stand after the others, and at the end all do.
use Rattle.std.proofs.Common.{◌≡◌, ◌∙◌, ◌++◌, ℕ, ap, arith}
use Rattle.tk_shape.specs.Lengths.{turn_count}
use Rattle.tk_privacy.specs.Privacy.{cells}
use Rattle.tk_privacy.specs.Exchanging.{writes_of_turn}
use Rattle.tk_privacy.proofs.ExchangingLaws.{next_cell}
use Rattle.tk_privacy.proofs.exchange.Exchange.push_writes.Goals as goal

pub loop-turn-preserved : goal.loop-turn-preserved
loop-turn-preserved c =
    let e = c.args.self.now in
    next_cell (writes_of_turn e.way e.script.now e.cells.now.bytes.now) c.loop-turn.turn
    c.args.out.now.items _ _ c.loop-turn.invariant c.in_ok-push_turn.ensures

pub returns : goal.returns
returns c =
    let e = c.args.self.now in
    let cell = writes_of_turn e.way e.script.now e.cells.now.bytes.now in
    let end : c.loop-turn.turn ≡ turn_count e.script.now.shape = omega arith in
    c.loop-turn.invariant ∙ ap (λ (n : ℕ). c.args.out.now.items ++ cells n cell) end
