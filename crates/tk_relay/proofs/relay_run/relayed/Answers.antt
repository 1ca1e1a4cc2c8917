-- A run without a table for its cluster gives the taps nothing.
use Rattle.std.proofs.Common.{ℕ}
use Rattle.tk_schedule.specs.Schedule.{serial_history}
use Rattle.tk_words.specs.Words.{keyed}
use Rattle.tk_report.specs.Exchange.{bytes_of}
use Rattle.tk_relay.specs.Relayed.{relayed_exchange}
use Rattle.tk_io.proofs.Offers.{fronts-none, on_err}
use Rattle.tk_relay.proofs.relay_run.relayed.Goals as goal

pub returns-in_err-blank-clause-err : goal.returns-in_err-blank-clause-err
returns-in_err-blank-clause-err g c =
    let S = c.args.script.now in
    let book = keyed c.args.draws.now.handles.items c.args.draws.now.seeds.items in
    let seen = λ (j : ℕ).
    bytes_of (relayed_exchange S book c.args.seeds.now (serial_history S.shape) j)
    in
    on_err _ c.from_residual.result
    (fronts-none S.shape.servers seen (g.T.Taps.tap c.args.taps.now))
