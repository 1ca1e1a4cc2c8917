-- When all have read, the run stands before the next turn, and the servers saw what they see.
use Rattle.std.proofs.Common.{◌++◌, ◌∙◌, List, All, arith, refl, sym, subst}
use Rattle.std.specs.Prelude.{flat_map}
use Rattle.tk_schedule.specs.declared.history.History.{History}
use Rattle.tk_run.specs.declared.talk.Talk.{Talk}
use Rattle.tk_run.specs.Rows.{AreRows}
use Rattle.tk_run.specs.Courses.{GoesOn, AreTalks, AreSights, HasTalked, talk_seen}
use Rattle.tk_run.specs.Ranging.{over_ranges}
use Rattle.tk_io.proofs.Offers.{always}
use Rattle.std.proofs.lemmas.Result.{IfOk-weaker}
use Rattle.tk_run.proofs.GoesOnLaws.{filled}
use Rattle.tk_run.proofs.TurnSights.{some_goes_on, have_talked, sights_seen, read_course}
use Rattle.tk_run.proofs.course.play_turn.Goals as goal

pub talk_all-requires-after_bounds : goal.talk_all-requires-after_bounds
talk_all-requires-after_bounds g c κs within =
    let S = c.args.stage.now.script.now in
    let written = c.in_ok-deeds.ensures.written in
    let H = filled S.shape c.write_turn.new.course.turns.items in
    let goes = some_goes_on written.ran (omega (arith, written.counted, c.requires.turn_in)) in
    (S, H, sym c.args.stage.now.one_shape, written.reads H goes)

pub sights_from-requires-clause-talked : goal.sights_from-requires-clause-talked
sights_from-requires-clause-talked g c κs within =
    let S = c.args.stage.now.script.now in
    let written = c.in_ok-deeds.ensures.written in
    let H = filled S.shape c.write_turn.new.course.turns.items in
    let goes = some_goes_on written.ran (omega (arith, written.counted, c.requires.turn_in)) in
    subst (λ (ts : List Talk). All (HasTalked S.shape.servers) ts) (sym c.as_slice-2.ensures.value)
    (have_talked (c.in_ok-talks.ensures.talks S H (written.reads H goes)))

pub returns-clause-course : goal.returns-clause-course
returns-clause-course g c =
    let S = c.args.stage.now.script.now in
    let written = c.in_ok-deeds.ensures.written in
    always c.sights_from.result
    (read_course (record c.write_turn.new.course.group { clients = c.talk_all.new.clients }) written refl
    (λ H goes. c.in_ok-talks.ensures.clients S H (written.reads H goes)))

pub returns-clause-sights : goal.returns-clause-sights
returns-clause-sights g c =
    let S = c.args.stage.now.script.now in
    let book = g.D.Draws.book c.args.stage.now.draws.now in
    let V = over_ranges S book c.args.stage.now.crew.shards (g.A.Sums.sum c.args.stage.now.sums.now) in
    let written = c.in_ok-deeds.ensures.written in
    let bytes = c.as_slice.result.now in
    let talks = c.as_slice-2.result.now in
    IfOk-weaker c.sights_from.result
    (λ v. AreRows S.shape.servers (λ i. bytes ++ flat_map (talk_seen i) talks) v.items)
    (λ v. (H : History) → GoesOn S.shape c.write_turn.new.course.turns.items H →
    AreSights S book H (V H) c.args.turn v.items)
    (λ v rows H goes.
    sights_seen (c.as_slice.ensures.value ∙ written.seen H goes)
    (subst (AreTalks S book H (V H) c.args.turn) (sym c.as_slice-2.ensures.value)
    (c.in_ok-talks.ensures.talks S H (written.reads H goes))) rows) c.sights_from.ensures
