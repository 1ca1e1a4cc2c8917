-- The run of the serial history, which the taps have fronts of where it ends early.
use Rattle.std.proofs.Common.{ℕ, ◌∙◌, ap, sym, subst, length}
use Rattle.tk_shape.specs.declared.shape.Shape.{Shape}
use Rattle.tk_schedule.specs.Schedule.{serial_history}
use Rattle.tk_schedule.specs.declared.history.History.{History}
use Rattle.tk_words.specs.Words.{keyed, words_of}
use Rattle.tk_frames.specs.InOrder.{IsOrder}
use Rattle.tk_report.specs.Displaced.{displaced_in}
use Rattle.tk_report.specs.Exchange.{bytes_of}
use Rattle.tk_report.specs.Outcomes.{IsLeftBy}
use Rattle.tk_io.specs.Tapped.{TapsGain, TapsGainFronts}
use Rattle.tk_relay.specs.Relayed.{relayed_exchange}
use Rattle.tk_io.proofs.Offers.{fronts-none, on_err}
use Rattle.tk_relay.proofs.EndedLaws.{closed-order, run-ended, all-given}
use Rattle.tk_relay.proofs.OrderedLaws.{ordered-once}
use Rattle.tk_relay.proofs.WrittenLaws.{run-first}
use Rattle.tk_relay.proofs.relay_run.relayed_over.Goals as goal

pub take_all_turns-ran-requires-clause-seeds : goal.take_all_turns-ran-requires-clause-seeds
take_all_turns-ran-requires-clause-seeds g c κs met =
    ap length c.requires.own_seeds ∙ c.args.draws.now.seed_each
    ∙ ap (λ (s : Shape). s.clients) c.requires.one_shape

pub take_all_turns-ran-requires-clause-run : goal.take_all_turns-ran-requires-clause-run
take_all_turns-ran-requires-clause-run g c κs met =
    let book = keyed c.args.draws.now.handles.items c.args.draws.now.seeds.items in
    run-first g.B.Naming.shape c.args.script.now book c.in_ok-history.history c.in_ok-group.group
    c.in_ok-cluster.passes.items c.in_ok-cluster.publisher c.requires.same c.in_ok-cluster.ensures
    c.in_ok-group.ensures.said c.in_ok-group.ensures.clients

pub returns-in_err-history-clause-err : goal.returns-in_err-history-clause-err
returns-in_err-history-clause-err g c =
    let S = c.args.script.now in
    let book = keyed c.args.draws.now.handles.items c.args.draws.now.seeds.items in
    let seen = λ (j : ℕ).
    bytes_of (relayed_exchange S book c.args.seeds.now (serial_history S.shape) j)
    in
    on_err _ c.from_residual.result (fronts-none S.shape.servers seen (g.T.Taps.tap c.args.taps.now))

pub returns-in_err-group-clause-err : goal.returns-in_err-group-clause-err
returns-in_err-group-clause-err g c =
    let S = c.args.script.now in
    let book = keyed c.args.draws.now.handles.items c.args.draws.now.seeds.items in
    let seen = λ (j : ℕ).
    bytes_of (relayed_exchange S book c.args.seeds.now (serial_history S.shape) j)
    in
    on_err _ c.from_residual-in_err-group.result
    (fronts-none S.shape.servers seen (g.T.Taps.tap c.args.taps.now))

pub returns-in_err-cluster-clause-err : goal.returns-in_err-cluster-clause-err
returns-in_err-cluster-clause-err g c =
    let S = c.args.script.now in
    let book = keyed c.args.draws.now.handles.items c.args.draws.now.seeds.items in
    let seen = λ (j : ℕ).
    bytes_of (relayed_exchange S book c.args.seeds.now (serial_history S.shape) j)
    in
    on_err _ c.from_residual-in_err-cluster.result
    (fronts-none S.shape.servers seen (g.T.Taps.tap c.args.taps.now))

pub returns-in-Err-clause-err : goal.returns-in-Err-clause-err
returns-in-Err-clause-err g c =
    let S = c.args.script.now in
    let book = keyed c.args.draws.now.handles.items c.args.draws.now.seeds.items in
    let old = g.T.Taps.tap c.args.taps.now in
    let new = g.T.Taps.tap c.take_all_turns-ran.new.taps in
    subst (λ (h : History). TapsGainFronts S.shape.servers
    (λ (j : ℕ). bytes_of (relayed_exchange S book c.args.seeds.now h j)) old new)
    c.in_ok-history.ensures.serial c.in-Err.ensures.err

pub close-requires : goal.close-requires
close-requires g c = ordered-once c.in_default.ensures.run.ordered

pub displaced_in_order-requires : goal.displaced_in_order-requires
displaced_in_order-requires g c =
    subst (IsOrder c.args.script.now.shape) (sym (c.as_slice.ensures ∙ c.order.ensures))
    (closed-order c.in_default.ensures.run c.in_ok-closed.ensures)

pub of-requires : goal.of-requires
of-requires g c =
    let S = c.args.script.now in
    let book = keyed c.args.draws.now.handles.items c.args.draws.now.seeds.items in (
      words_of S.shape book,
      run-ended c.in_default.ensures.run c.in_ok-closed.ensures c.in_ok-displaced.displaced
          c.in_ok-history.ensures.legal
          (c.in_ok-displaced.ensures
          ∙ ap (displaced_in S.shape) (c.as_slice.ensures ∙ c.order.ensures)),
    )

pub returns-clause-ok : goal.returns-clause-ok
returns-clause-ok g c =
    let S = c.args.script.now in
    let book = keyed c.args.draws.now.handles.items c.args.draws.now.seeds.items in
    let old = g.T.Taps.tap c.args.taps.now in
    let new = g.T.Taps.tap c.take_all_turns-ran.new.taps in
    subst (λ (h : History). TapsGain S.shape.servers
    (λ (j : ℕ). bytes_of (relayed_exchange S book c.args.seeds.now h j)) old new)
    c.in_ok-history.ensures.serial c.in_default.ensures.ok

pub returns-clause-left : goal.returns-clause-left
returns-clause-left g c =
    let S = c.args.script.now in
    let book = keyed c.args.draws.now.handles.items c.args.draws.now.seeds.items in
    let words = words_of S.shape book in
    subst (λ (H : History). IsLeftBy S words H c.in_ok-of.field-0) c.in_ok-history.ensures.serial
    (c.in_ok-of.ensures words
    (run-ended c.in_default.ensures.run c.in_ok-closed.ensures c.in_ok-displaced.displaced
    c.in_ok-history.ensures.legal
    (c.in_ok-displaced.ensures
    ∙ ap (displaced_in S.shape) (c.as_slice.ensures ∙ c.order.ensures))))

-- after all turns an error leaves what they gave to the taps
pub returns-in_err-closed-clause-err : goal.returns-in_err-closed-clause-err
returns-in_err-closed-clause-err g c =
    let S = c.args.script.now in
    let book = keyed c.args.draws.now.handles.items c.args.draws.now.seeds.items in
    let old = g.T.Taps.tap c.args.taps.now in
    let new = g.T.Taps.tap c.take_all_turns-ran.new.taps in
    on_err _ c.from_residual-in_err-closed.result
    (all-given S book c.args.seeds.now c.in_ok-history.history (serial_history S.shape) old new
    c.in_ok-history.ensures.serial c.in_default.ensures.ok)

pub returns-in_err-displaced-clause-err : goal.returns-in_err-displaced-clause-err
returns-in_err-displaced-clause-err g c =
    let S = c.args.script.now in
    let book = keyed c.args.draws.now.handles.items c.args.draws.now.seeds.items in
    let old = g.T.Taps.tap c.args.taps.now in
    let new = g.T.Taps.tap c.take_all_turns-ran.new.taps in
    on_err _ c.from_residual-in_err-displaced.result
    (all-given S book c.args.seeds.now c.in_ok-history.history (serial_history S.shape) old new
    c.in_ok-history.ensures.serial c.in_default.ensures.ok)

pub returns-in_err-of-clause-err : goal.returns-in_err-of-clause-err
returns-in_err-of-clause-err g c =
    let S = c.args.script.now in
    let book = keyed c.args.draws.now.handles.items c.args.draws.now.seeds.items in
    let old = g.T.Taps.tap c.args.taps.now in
    let new = g.T.Taps.tap c.take_all_turns-ran.new.taps in
    on_err _ c.from_residual-in_err-of.result
    (all-given S book c.args.seeds.now c.in_ok-history.history (serial_history S.shape) old new
    c.in_ok-history.ensures.serial c.in_default.ensures.ok)
