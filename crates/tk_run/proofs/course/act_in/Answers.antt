-- Each pass may write and pin, and the publisher may publish.
use Rattle.std.proofs.Common.{◌≡◌, ◌+◌, ◌≤◌, arith, sym, subst, List, All, length}
use Rattle.tk_shape.specs.declared.shape.Shape.{Shape}
use Rattle.tk_schedule.specs.Schedule.{phases_over}
use Rattle.tk_cluster.specs.Passes.{Passing}
use Rattle.tk_run.specs.Acting.{IsReadyServer}
use Rattle.tk_run.proofs.RanEnds.{ran_ready, ran_on}
use Rattle.tk_run.proofs.CourseStarts.{ran_room}
use Rattle.tk_run.proofs.course.act_in.Goals as goal

pub act-requires-clause-ready : goal.act-requires-clause-ready
act-requires-clause-ready g c κs within =
    let S = c.args.stage.now.script.now in
    let course = c.args.course.now in
    let passes = course.passes.items in
    let most = phases_over S.shape (c.args.turn + 1) in
    let all = ran_ready c.requires.ran (omega (arith, c.requires.turns, c.requires.turn_in)) in
    let now : All (IsReadyServer S.shape most) passes =
    subst (λ n. All (IsReadyServer S.shape (phases_over S.shape (n + 1))) passes) c.requires.turns all
    in
    let there : All (IsReadyServer S.shape most) c.as_mut_slice.result.now =
    subst (λ (xs : List Passing). All (IsReadyServer S.shape most) xs)
    (sym c.as_mut_slice.ensures.value) now
    in
    subst (λ (shape : Shape). All (IsReadyServer shape most) c.as_mut_slice.result.now)
    (sym c.args.stage.now.same) there

pub act-requires-clause-on : goal.act-requires-clause-on
act-requires-clause-on g c κs within =
    let S = c.args.stage.now.script.now in
    let course = c.args.course.now in
    let p = course.herald.publisher in
    subst (λ (xs : List Passing). All (λ (a : Passing). a.reads.board ≡ p.board) xs)
    (sym c.as_mut_slice.ensures.value)
    (ran_on c.requires.ran)

pub act-requires-clause-room : goal.act-requires-clause-room
act-requires-clause-room g c κs within =
    let S = c.args.stage.now.script.now in
    let course = c.args.course.now in
    let p = course.herald.publisher in
    subst (λ (shape : Shape). length p.shown ≤ shape.phases) (sym c.args.stage.now.same)
    (ran_room c.requires.ran (omega (arith, c.requires.turns, c.requires.turn_in)))
