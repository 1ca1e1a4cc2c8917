-- Turn after turn the taps gain what the servers see.
use Rattle.std.proofs.Common.{◌≡◌, ◌∙◌, arith, refl, subst, le_trans}
use Rattle.tk_shape.specs.Lengths.{turn_count}
use Rattle.tk_relay.specs.Running.{IsRunBefore}
use Rattle.tk_io.proofs.Offers.{on_err}
use Rattle.tk_relay.proofs.SeenTurns.{taps-first, taps-next, taps-all, fronts-next}
use Rattle.tk_relay.proofs.turns.take_all_turns.Goals as goal

pub turns-init : goal.turns-init
turns-init g c =
    let S = c.args.plan.now.script.now in
    let book = g.D.Draws.book c.args.plan.now.draws.now in
    let H = c.args.plan.now.history.now in
    record {
      run = c.requires.run;
      taps = taps-first S book c.args.seeds.now H (g.T.Taps.tap c.args.taps.now);
      others = λ j out. refl;
      counts = omega arith;
    }

pub returns-in_err-take_turn-clause-err : goal.returns-in_err-take_turn-clause-err
returns-in_err-take_turn-clause-err g c =
    let S = c.args.plan.now.script.now in
    let tap = g.T.Taps.tap in
    on_err _ c.from_residual.result
    (fronts-next S (g.D.Draws.book c.args.plan.now.draws.now) c.args.seeds.now
    c.args.plan.now.history.now c.turns.turn
    (tap c.args.taps.now) (tap c.turns.taps) (tap c.take_turn.new.taps)
    (omega (arith, c.turns-test.true))
    c.turns.invariant.taps c.in_err-take_turn.ensures.err)

pub returns-clause-ok : goal.returns-clause-ok
returns-clause-ok g c =
    let S = c.args.plan.now.script.now in
    let tap = g.T.Taps.tap in
    let all : c.turns.turn ≡ turn_count S.shape = omega arith in
    taps-all S (g.D.Draws.book c.args.plan.now.draws.now) c.args.seeds.now
    c.args.plan.now.history.now c.turns.turn
    (tap c.args.taps.now) (tap c.turns.taps) all c.turns.invariant.taps

pub turns-preserved : goal.turns-preserved
turns-preserved g c =
    let S = c.args.plan.now.script.now in
    let tap = g.T.Taps.tap in
    let is = c.turns.invariant in
    let took = c.in_ok-take_turn.ensures in
    record {
      run = took.run;
      taps = taps-next S (g.D.Draws.book c.args.plan.now.draws.now) c.args.seeds.now
          c.args.plan.now.history.now c.turns.turn
          (tap c.args.taps.now) (tap c.turns.taps) (tap c.take_turn.new.taps)
          is.taps took.ok;
      others = λ j out. took.others j out ∙ is.others j out;
      counts = le_trans is.counts took.counts;
    }

pub returns-clause-run : goal.returns-clause-run
returns-clause-run g c =
    let S = c.args.plan.now.script.now in
    let book = g.D.Draws.book c.args.plan.now.draws.now in
    let all : c.turns.turn ≡ turn_count S.shape = omega arith in
    let run = c.turns.run in
    subst (λ n. IsRunBefore g.B.Naming.shape S book c.args.plan.now.history.now n run.group
    run.servers.passes.items run.servers.publisher run.servers.taken) all
    c.turns.invariant.run
