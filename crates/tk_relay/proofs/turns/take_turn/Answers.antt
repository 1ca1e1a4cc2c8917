-- What the taps gain of a turn: all that the servers saw in it, or fronts.
use Rattle.std.proofs.Common.{◌∙◌, arith}
use Rattle.tk_io.proofs.Offers.{fronts-none, on_err}
use Rattle.tk_relay.specs.Relayed.{relayed_turn}
use Rattle.tk_relay.proofs.SightTaps.{sights-counted, sights-gain, sights-fronts, sights-keep}
use Rattle.tk_relay.proofs.turns.take_turn.Goals as goal

pub give_sights-requires : goal.give_sights-requires
give_sights-requires g c =
    let S = c.args.plan.now.script.now in
    let counted = sights-counted (relayed_turn S (g.D.Draws.book c.args.plan.now.draws.now)
    c.args.seeds.now c.args.plan.now.history.now c.args.turn) (c.as_slice.ensures.value ∙ c.in_ok-sights.ensures.sights) in
    omega (arith, counted, S.shape.in_range.servers_high)

pub returns-clause-ok : goal.returns-clause-ok
returns-clause-ok g c =
    sights-gain (relayed_turn c.args.plan.now.script.now (g.D.Draws.book c.args.plan.now.draws.now)
    c.args.seeds.now c.args.plan.now.history.now c.args.turn) (c.as_slice.ensures.value ∙ c.in_ok-sights.ensures.sights)
    (g.T.Taps.tap c.args.taps.now) (g.T.Taps.tap c.give_sights.new.taps)
    c.in_ok-give_sights.ensures.ok

pub returns-clause-others : goal.returns-clause-others
returns-clause-others g c =
    sights-keep (relayed_turn c.args.plan.now.script.now (g.D.Draws.book c.args.plan.now.draws.now)
    c.args.seeds.now c.args.plan.now.history.now c.args.turn) (c.as_slice.ensures.value ∙ c.in_ok-sights.ensures.sights)
    (g.T.Taps.tap c.args.taps.now) (g.T.Taps.tap c.give_sights.new.taps)
    c.give_sights.ensures.others

pub returns-in_err-sights-clause-err : goal.returns-in_err-sights-clause-err
returns-in_err-sights-clause-err g c =
    let S = c.args.plan.now.script.now in
    let book = g.D.Draws.book c.args.plan.now.draws.now in
    on_err _ c.from_residual.result
    (fronts-none S.shape.servers
    (relayed_turn S book c.args.seeds.now c.args.plan.now.history.now c.args.turn)
    (g.T.Taps.tap c.args.taps.now))

pub returns-in_err-give_sights-clause-err : goal.returns-in_err-give_sights-clause-err
returns-in_err-give_sights-clause-err g c =
    on_err _ c.from_residual-in_err-give_sights.result
    (sights-fronts (relayed_turn c.args.plan.now.script.now (g.D.Draws.book c.args.plan.now.draws.now)
    c.args.seeds.now c.args.plan.now.history.now c.args.turn) (c.as_slice.ensures.value ∙ c.in_ok-sights.ensures.sights)
    (g.T.Taps.tap c.args.taps.now) (g.T.Taps.tap c.give_sights.new.taps)
    c.in_err-give_sights.ensures.err)

pub returns-in_err-give_sights-clause-others : goal.returns-in_err-give_sights-clause-others
returns-in_err-give_sights-clause-others g c =
    sights-keep (relayed_turn c.args.plan.now.script.now (g.D.Draws.book c.args.plan.now.draws.now)
    c.args.seeds.now c.args.plan.now.history.now c.args.turn) (c.as_slice.ensures.value ∙ c.in_ok-sights.ensures.sights)
    (g.T.Taps.tap c.args.taps.now) (g.T.Taps.tap c.give_sights.new.taps)
    c.give_sights.ensures.others
