-- Turn after turn the taps gain what the servers see of the history that comes about.
use Rattle.std.proofs.Common.{◌≡◌, ◌∙◌, arith, refl, subst, le_trans}
use Rattle.tk_shape.specs.Lengths.{turn_count}
use Rattle.tk_run.specs.Ranging.{over_ranges}
use Rattle.tk_run.specs.Stages.{IsCourseOn}
use Rattle.tk_run.proofs.Stopping.{run_stopped}
use Rattle.tk_run.proofs.TapTurns.{gained_first, gained_next, gained_all, gained_fronts}
use Rattle.tk_run.proofs.course.run_turns.Goals as goal

pub turns-init : goal.turns-init
turns-init g c =
    let S = c.args.stage.now.script.now in
    let book = g.D.Draws.book c.args.stage.now.draws.now in
    let V = over_ranges S book c.args.stage.now.crew.shards (g.A.Sums.sum c.args.stage.now.sums.now) in
    record {
      course = c.requires;
      taps = gained_first S book V c.args.course.now.turns.items (g.T.Taps.tap c.args.taps.now);
      others = λ j out. refl;
      counts = omega arith;
    }

pub turns-preserved : goal.turns-preserved
turns-preserved g c =
    let is = c.turns.invariant in
    let ran = c.in_ok-run_turn.ensures in
    record {
      course = ran.course;
      taps = gained_next is.taps ran.behind ran.taps.ok;
      others = λ j out. ran.taps.others j out ∙ is.others j out;
      counts = le_trans is.counts ran.counts;
    }

pub returns-in_err-run_turn-clause-taps : goal.returns-in_err-run_turn-clause-taps
returns-in_err-run_turn-clause-taps g c =
    let S = c.args.stage.now.script.now in
    let book = g.D.Draws.book c.args.stage.now.draws.now in
    let V = over_ranges S book c.args.stage.now.crew.shards (g.A.Sums.sum c.args.stage.now.sums.now) in
    let new = g.T.Taps.tap c.run_turn.new.taps in
    let is = c.turns.invariant in
    let stopped = c.in_err-run_turn.ensures.taps in
    let H = stopped.err.0 in
    run_stopped S book V _ c.from_residual.result c.from_residual.ensures.1
    (g.T.Taps.tap c.args.taps.now) new c.run_turn.new.course.turns.items H stopped.err.1.legal
    (gained_fronts is.taps H new (omega (arith, c.turns-test.true)) stopped.err.1 stopped.err.2)
    (λ j out. stopped.others j out ∙ is.others j out)

pub returns-clause-course : goal.returns-clause-course
returns-clause-course g c =
    let all : c.turns.turn ≡ turn_count c.args.stage.now.script.now.shape = omega arith in
    subst (λ n. IsCourseOn c.args.stage.now n c.turns.course) all c.turns.invariant.course

pub returns-clause-taps : goal.returns-clause-taps
returns-clause-taps g c =
    let all : c.turns.turn ≡ turn_count c.args.stage.now.script.now.shape = omega arith in
    record {
      ok = gained_all c.turns.invariant.taps all;
      err = tt;
      others = c.turns.invariant.others;
    }
