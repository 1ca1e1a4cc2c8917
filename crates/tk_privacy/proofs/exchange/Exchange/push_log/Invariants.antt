-- The cells of the numbers so far stand after what was there.
use Rattle.std.proofs.Common.{◌≡◌, ◌++◌, ℕ}
use Rattle.tk_script.specs.Sent.{sent_as, writer_of}
use Rattle.tk_privacy.specs.Privacy.{cells}
use Rattle.tk_privacy.specs.Exchanging.{keyed_exchanged}
use Rattle.tk_privacy.proofs.exchange.Exchange.push_log.Given as goal

abbrev pub invariant-loop-number : goal.invariant-loop-number
invariant-loop-number l =
    let S = l.self.script.now in
    let u = l.self.cells.now.bytes.now in
    let writer = writer_of S l.log in
    let cell = λ (s : ℕ).
    keyed_exchanged l.self.way S.shape u writer l.log s (sent_as S l.log s)
    in
    l.out.items ≡ l.fn.out.items ++ cells l.number cell
