-- What the taps gain of a turn: all that the servers saw in it, or fronts.
use Rattle.std.proofs.Common.{arith, refl, sym, subst, ap, length}
use Rattle.tk_schedule.specs.declared.history.History.{History}
use Rattle.tk_run.specs.Courses.{GoesOn, AreSights}
use Rattle.tk_run.proofs.CourseStarts.{course_goes}
use Rattle.tk_io.proofs.Offers.{fronts-none}
use Rattle.tk_run.proofs.GoesOnLaws.{filled}
use Rattle.tk_run.proofs.TurnSights.{some_goes_on}
use Rattle.tk_run.proofs.Stopping.{turn_stopped}
use Rattle.tk_run.proofs.TapTurns.{goes_on_before, sights_gain, sights_fronts, sights_keep}
use Rattle.tk_run.specs.Ranging.{over_ranges}
use Rattle.tk_run.specs.Under.{turn_under}
use Rattle.tk_run.proofs.course.run_turn.Goals as goal

pub returns-in_err-sights-clause-taps : goal.returns-in_err-sights-clause-taps
returns-in_err-sights-clause-taps g c =
    let S = c.args.stage.now.script.now in
    let book = g.D.Draws.book c.args.stage.now.draws.now in
    let V = over_ranges S book c.args.stage.now.crew.shards (g.A.Sums.sum c.args.stage.now.sums.now) in
    let tap = g.T.Taps.tap in
    let old = c.args.course.now in
    let H = filled S.shape old.turns.items in
    turn_stopped S book V _ c.from_residual.result c.from_residual.ensures.1 (tap c.args.taps.now)
    (tap c.args.taps.now) c.args.turn old.turns.items c.play_turn.new.course.turns.items H
    (course_goes c.requires.course c.requires.turn_in)
    (fronts-none S.shape.servers (turn_under S book H (V H) c.args.turn) (tap c.args.taps.now))
    (λ j out. refl)

pub returns-in_err-give_sights-clause-taps : goal.returns-in_err-give_sights-clause-taps
returns-in_err-give_sights-clause-taps g c =
    let S = c.args.stage.now.script.now in
    let book = g.D.Draws.book c.args.stage.now.draws.now in
    let V = over_ranges S book c.args.stage.now.crew.shards (g.A.Sums.sum c.args.stage.now.sums.now) in
    let tap = g.T.Taps.tap in
    let played = c.in_ok-sights.ensures in
    let now = c.play_turn.new.course in
    let H = filled S.shape now.turns.items in
    let goes = some_goes_on played.course.ran (omega (arith, played.course.counted, c.requires.turn_in)) in
    let are = subst (AreSights S book H (V H) c.args.turn) (sym c.as_slice.ensures.value) (played.sights H goes) in
    let gave = c.in_err-give_sights.ensures.taps in
    turn_stopped S book V _ c.from_residual-in_err-give_sights.result
    c.from_residual-in_err-give_sights.ensures.1 (tap c.args.taps.now) (tap c.give_sights.new.taps)
    c.args.turn c.args.course.now.turns.items now.turns.items H
    (goes_on_before c.args.course.now.turns.items played.behind goes)
    (sights_fronts are (tap c.args.taps.now) (tap c.give_sights.new.taps) gave.err)
    (sights_keep are (tap c.args.taps.now) (tap c.give_sights.new.taps) gave.others)

pub returns-clause-taps : goal.returns-clause-taps
returns-clause-taps g c =
    let S = c.args.stage.now.script.now in
    let book = g.D.Draws.book c.args.stage.now.draws.now in
    let V = over_ranges S book c.args.stage.now.crew.shards (g.A.Sums.sum c.args.stage.now.sums.now) in
    let tap = g.T.Taps.tap in
    let played = c.in_ok-sights.ensures in
    let now = c.play_turn.new.course in
    let goes = some_goes_on played.course.ran (omega (arith, played.course.counted, c.requires.turn_in)) in
    let are = λ (H : History) (goes : GoesOn S.shape now.turns.items H).
    subst (AreSights S book H (V H) c.args.turn) (sym c.as_slice.ensures.value) (played.sights H goes)
    in
    let gave = c.in_ok-give_sights.ensures.taps in
    record {
      ok = λ H goes. sights_gain (are H goes) (tap c.args.taps.now) (tap c.give_sights.new.taps) gave.ok;
      err = tt;
      others = sights_keep (are (filled S.shape now.turns.items) goes) (tap c.args.taps.now)
          (tap c.give_sights.new.taps) gave.others;
    }

pub give_sights-requires : goal.give_sights-requires
give_sights-requires g c =
    let S = c.args.stage.now.script.now in
    let played = c.in_ok-sights.ensures in
    let now = c.play_turn.new.course in
    let book = g.D.Draws.book c.args.stage.now.draws.now in
    let V = over_ranges S book c.args.stage.now.crew.shards (g.A.Sums.sum c.args.stage.now.sums.now) in
    let goes = some_goes_on played.course.ran (omega (arith, played.course.counted, c.requires.turn_in)) in
    let are = played.sights (filled S.shape now.turns.items) goes in
    omega (arith, ap length c.as_slice.ensures.value, are.counted, S.shape.in_range.servers_high)
