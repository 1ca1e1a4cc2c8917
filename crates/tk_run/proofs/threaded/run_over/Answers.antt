-- One legal history comes about: what the run leaves is of it, and so is what the taps have.
use Rattle.std.proofs.Common.{◌∙◌, ℕ, List, ap, sym, subst}
use Rattle.std.specs.Prelude.{Result}
use Rattle.std.specs.Result.{IsErrAnd}
use Rattle.tk_shape.specs.declared.shape.Shape.{Shape}
use Rattle.tk_schedule.specs.declared.history.TurnOrder.{TurnOrder}
use Rattle.tk_io.proofs.Offers.{fronts-of_all}
use Rattle.tk_frames.specs.InOrder.{IsOrder}
use Rattle.tk_report.specs.Displaced.{displaced_in}
use Rattle.tk_report.specs.Exchange.{bytes_of}
use Rattle.tk_report.specs.Serving.{exchange_under}
use Rattle.tk_cluster.specs.Clusters.{Opened}
use Rattle.tk_cluster.specs.Closings.{Ended, AllOnce, Closes}
use Rattle.tk_run.specs.declared.run_error.RunError.{RunError}
use Rattle.tk_run.specs.Courses.{IsCourse}
use Rattle.tk_run.specs.Ranging.{over_ranges}
use Rattle.tk_run.specs.Threads.{CameAboutUnder}
use Rattle.tk_run.specs.declared.closed_run.ClosedRun.{ClosedRun}
use Rattle.tk_run.proofs.CameLaws.{course_clients, course_goes_on, course_once, course_displaced}
use Rattle.tk_run.proofs.CameLaws.{course_order, course_epochs}
use Rattle.tk_run.proofs.CourseStarts.{course_first}
use Rattle.tk_run.proofs.Stopping.{came_stopped, came_nowhere}
use Rattle.tk_run.proofs.threaded.run_over.Given as given
use Rattle.tk_run.proofs.threaded.run_over.Goals as goal
use Rattle.tk_run.proofs.threaded.run_over.Goals.{After-close}

pub returns-in_err-group-clause-run : goal.returns-in_err-group-clause-run
returns-in_err-group-clause-run g c =
    let scene = c.args.scene.now in
    let book = g.D.Draws.book scene.draws.now in
    let V = over_ranges scene.script.now book scene.crew.shards (g.A.Sums.sum scene.sums.now) in
    came_nowhere scene.script.now book V _ c.from_residual.result c.from_residual.ensures.1
    (g.T.Taps.tap c.args.taps.now)

pub returns-in_err-cluster-clause-run : goal.returns-in_err-cluster-clause-run
returns-in_err-cluster-clause-run g c =
    let scene = c.args.scene.now in
    let book = g.D.Draws.book scene.draws.now in
    let V = over_ranges scene.script.now book scene.crew.shards (g.A.Sums.sum scene.sums.now) in
    came_nowhere scene.script.now book V _ c.from_residual-in_err-cluster.result
    c.from_residual-in_err-cluster.ensures.1 (g.T.Taps.tap c.args.taps.now)

pub run_turns-ran-requires-after_bounds : goal.run_turns-ran-requires-after_bounds
run_turns-ran-requires-after_bounds g c κs within =
    let scene = c.args.scene.now in
    let S = scene.script.now in
    let book = g.D.Draws.book scene.draws.now in
    let V = over_ranges S book scene.crew.shards (g.A.Sums.sum scene.sums.now) in
    let group = c.in_ok-group.group in
    let xs = c.in_ok-cluster.passes.items in
    let p = c.in_ok-cluster.publisher in
    let opened : Opened S.shape p xs =
    subst (λ (shape : Shape). Opened shape p xs) (sym c.requires.same) c.in_ok-cluster.ensures
    in
    subst (λ (turns : List TurnOrder). IsCourse S book V 0 turns group xs p)
    (sym c.new.ensures.items)
    (course_first S book V group opened c.in_ok-group.ensures.said c.in_ok-group.ensures.clients)

pub close-requires : goal.close-requires
close-requires g c =
    let now = c.run_turns-ran.new.course in
    subst (λ (shape : Shape). AllOnce shape now.herald.publisher.board now.passes.items) c.requires.same
    (course_once c.in_default.ensures.course)

-- after all turns an error leaves what they gave to the taps
stopped : (g : given.Over) (c : goal.After-close g) (Q : RunError → Type 0)
    (r : Result ClosedRun RunError) → IsErrAnd r Q → let scene = c.args.scene.now in
    let book = g.D.Draws.book scene.draws.now in
    let V = over_ranges scene.script.now book scene.crew.shards (g.A.Sums.sum scene.sums.now) in
    CameAboutUnder scene.script.now book V r (g.T.Taps.tap c.args.taps.now)
    (g.T.Taps.tap c.run_turns-ran.new.taps)
stopped g c Q r is =
    let scene = c.args.scene.now in
    let S = scene.script.now in
    let book = g.D.Draws.book scene.draws.now in
    let V = over_ranges S book scene.crew.shards (g.A.Sums.sum scene.sums.now) in
    let K = c.run_turns-ran.new.course.turns.items in
    let old = g.T.Taps.tap c.args.taps.now in
    let new = g.T.Taps.tap c.run_turns-ran.new.taps in
    let goes = course_goes_on c.in_default.ensures.course in
    let taps = c.in_default.ensures.taps in
    came_stopped S book V Q r is old new K goes.legal
    (fronts-of_all S.shape.servers (λ (j : ℕ). bytes_of (exchange_under S book K (V K) j)) old new
    (taps.ok K goes)) taps.others

pub returns-in_err-closed-clause-run : goal.returns-in_err-closed-clause-run
returns-in_err-closed-clause-run g c =
    stopped g (goal.at.returns-in_err-closed-clause-run g c).After-close _
    c.from_residual-in_err-closed.result c.from_residual-in_err-closed.ensures.1

pub returns-in_err-displaced-clause-run : goal.returns-in_err-displaced-clause-run
returns-in_err-displaced-clause-run g c =
    stopped g (goal.at.returns-in_err-displaced-clause-run g c).After-close _
    c.from_residual-in_err-displaced.result c.from_residual-in_err-displaced.ensures.1

-- the turns are a history
pub from_turns-history-requires : goal.from_turns-history-requires
from_turns-history-requires g c =
    (c.args.scene.now.script.now.shape, (course_goes_on c.in_default.ensures.course).legal)

-- its order is that of the closed cluster
module _ (g : given.Over) (c : goal.After-close g) where
  abbrev Closing : Ended → Shape → Type 0
  Closing closed shape =
      let now = c.run_turns-ran.new.course in
      Closes shape now.passes.items now.herald.publisher closed

  closes : (closed : Ended) → Closing closed g.B.Naming.shape →
      Closing closed c.args.scene.now.script.now.shape
  closes closed = subst (Closing closed) (sym c.requires.same)

pub displaced_in_order-requires : goal.displaced_in_order-requires
displaced_in_order-requires g c =
    let at = (goal.at.displaced_in_order-requires g c).After-close in
    let shape = c.args.scene.now.script.now.shape in
    let closing = closes g at c.in_ok-closed.closed c.in_ok-closed.ensures in
    subst (IsOrder shape) (sym (c.as_slice-order.ensures ∙ c.order.ensures)) closing.legal.order

pub returns-clause-run : goal.returns-clause-run
returns-clause-run g c =
    let at = (goal.at.returns-clause-run g c).After-close in
    let scene = c.args.scene.now in
    let S = scene.script.now in
    let K = c.run_turns-ran.new.course.turns.items in
    let course = c.in_default.ensures.course in
    let goes = course_goes_on course in
    let taps = c.in_default.ensures.taps in
    let closing = closes g at c.in_ok-closed.closed c.in_ok-closed.ensures in
    let ordered = c.as_slice-order.ensures ∙ c.order.ensures in
    record {
      history = K;
      legal = goes.legal;
      run = record {
        history = c.from_turns-history.ensures;
        clients = course_clients course;
        displaced = course_displaced course closing
            (c.in_ok-displaced.ensures ∙ ap (displaced_in S.shape) ordered);
        order = course_order course closing;
        epochs = course_epochs course closing;
      };
      taps = record { ok = taps.ok K goes; err = tt; others = taps.others };
    }
