-- The cells of the clients so far stand after what was there.
use Rattle.std.proofs.Common.{◌≡◌, ◌++◌, ℕ}
use Rattle.tk_script.specs.Sent.{sent}
use Rattle.tk_privacy.specs.Privacy.{cells}
use Rattle.tk_privacy.specs.Exchanging.{write_exchanged}
use Rattle.tk_privacy.proofs.exchange.Exchange.push_turn.Given as goal

abbrev pub invariant-loop-client : goal.invariant-loop-client
invariant-loop-client l =
    let S = l.self.script.now in
    let u = l.self.cells.now.bytes.now in
    let cell = λ (c : ℕ). write_exchanged l.self.way S.shape u l.turn c (sent S l.turn c) in
    l.out.items ≡ l.fn.out.items ++ cells l.client cell
