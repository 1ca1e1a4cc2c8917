-- Before each turn the run stands as its turns say, and the taps gained what the servers saw.
use Rattle.std.proofs.Common.{◌≤◌}
use Rattle.tk_io.specs.Tapped.{TapsKeepBut}
use Rattle.tk_run.specs.Stages.{IsCourseOn, serving_on}
use Rattle.tk_run.proofs.TapTurns.{GainedBefore}
use Rattle.tk_run.proofs.course.run_turns.Given as goal

abbrev pub invariant-turns : goal.invariant-turns
invariant-turns g l =
    let S = l.stage.script.now in
    let book = g.D.Draws.book l.stage.draws.now in
    let tap = g.T.Taps.tap in
    record {
      course : IsCourseOn l.stage l.turn l.course;
      taps : GainedBefore S book (serving_on l.stage) l.turn l.course.turns.items (tap l.fn.taps)
          (tap l.taps);
      others : TapsKeepBut S.shape.servers (tap l.fn.taps) (tap l.taps);
      counts : g.T.Taps.faults l.fn.taps ≤ g.T.Taps.faults l.taps;
    }
