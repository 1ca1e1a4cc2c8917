-- A run that isn't opened gives the taps nothing.
use Rattle.std.proofs.Common.{◌∙◌, ◌++◌, ℕ, List, ap, arith}
use Rattle.tk_shape.specs.Lengths.{turn_count}
use Rattle.tk_report.specs.Exchange.{bytes_of}
use Rattle.tk_report.specs.Serving.{exchange_under}
use Rattle.tk_run.specs.declared.resume_error.ResumeError.TheVariants as resume
use Rattle.tk_run.specs.Keeping.{begun_anew, saved_before, turn_due}
use Rattle.tk_io.proofs.Offers.{fronts-none, on_err}
use Rattle.tk_run.proofs.ErrorLaws.{passed-on}
use Rattle.tk_run.proofs.KeepingLaws.{kept-since}
use Rattle.tk_run.proofs.turns.take_turns.Goals as goal

pub take_all_turns-requires-clause-running : goal.take_all_turns-requires-clause-running
take_all_turns-requires-clause-running g c κs within =
    c.in_ok-run.ensures.running (g.D.Draws.book c.args.plan.now.draws.now) c.args.plan.now.history.now

pub take_all_turns-requires-clause-accepted : goal.take_all_turns-requires-clause-accepted
take_all_turns-requires-clause-accepted g c κs within =
    c.in_ok-run.ensures.accepted (g.D.Draws.book c.args.plan.now.draws.now) c.args.plan.now.history.now

pub take_all_turns-requires-clause-run : goal.take_all_turns-requires-clause-run
take_all_turns-requires-clause-run g c κs within given may =
    c.in_ok-run.ensures.run (g.D.Draws.book c.args.plan.now.draws.now) c.args.plan.now.history.now
    given may

pub returns-in_err-run-clause-err : goal.returns-in_err-run-clause-err
returns-in_err-run-clause-err g c given begins =
    let S = c.args.plan.now.script.now in
    let book = g.D.Draws.book c.args.plan.now.draws.now in
    let H = c.args.plan.now.history.now in
    let V = begun_anew S book H (turn_due S c.args.due) given in
    on_err _ c.from_residual.result
    (fronts-none S.shape.servers (λ (j : ℕ). bytes_of (exchange_under S book H V j))
    (g.T.Taps.tap c.args.taps.now))

pub returns-in_err-take_all_turns-clause-err : goal.returns-in_err-take_all_turns-clause-err
returns-in_err-take_all_turns-clause-err g c given begins =
    let book = g.D.Draws.book c.args.plan.now.draws.now in
    let H = c.args.plan.now.history.now in
    on_err _ c.from_residual-in_err-take_all_turns.result
    (c.in_err-take_all_turns.ensures.err (g.K.Keeper.kept c.args.keeper.now)
    (c.in_ok-run.ensures.kept book H) given begins)

pub returns-in_err-run-clause-refused : goal.returns-in_err-run-clause-refused
returns-in_err-run-clause-refused g c =
    passed-on c.from_residual.result _ resume.Refused _ c.from_residual.ensures.1
    (c.in_err-run.ensures.refused (g.D.Draws.book c.args.plan.now.draws.now)
    c.args.plan.now.history.now)

pub returns-in_err-run-clause-failed : goal.returns-in_err-run-clause-failed
returns-in_err-run-clause-failed g c =
    passed-on c.from_residual.result _ resume.Taps _ c.from_residual.ensures.1
    (λ is. absurd (c.in_err-run.ensures.not_taps is))

pub returns-in_err-take_all_turns-clause-refused : goal.returns-in_err-take_all_turns-clause-refused
returns-in_err-take_all_turns-clause-refused g c =
    let book = g.D.Draws.book c.args.plan.now.draws.now in
    passed-on c.from_residual-in_err-take_all_turns.result _ resume.Refused _
    c.from_residual-in_err-take_all_turns.ensures.1
    (c.in_err-take_all_turns.ensures.refused (g.K.Keeper.kept c.args.keeper.now)
    (c.in_ok-run.ensures.kept book c.args.plan.now.history.now))

pub returns-in_err-take_all_turns-clause-failed : goal.returns-in_err-take_all_turns-clause-failed
returns-in_err-take_all_turns-clause-failed g c =
    let book = g.D.Draws.book c.args.plan.now.draws.now in
    passed-on c.from_residual-in_err-take_all_turns.result _ resume.Taps _
    c.from_residual-in_err-take_all_turns.ensures.1
    (c.in_err-take_all_turns.ensures.failed (g.K.Keeper.kept c.args.keeper.now)
    (c.in_ok-run.ensures.kept book c.args.plan.now.history.now))

pub returns-clause-kept : goal.returns-clause-kept
returns-clause-kept g c =
    let book = g.D.Draws.book c.args.plan.now.draws.now in
    let H = c.args.plan.now.history.now in
    c.in_ok-take_all_turns.ensures.kept (g.K.Keeper.kept c.args.keeper.now)
    (c.in_ok-run.ensures.kept book H)

pub returns-clause-run : goal.returns-clause-run
returns-clause-run g c given begins =
    let S = c.args.plan.now.script.now in
    let book = g.D.Draws.book c.args.plan.now.draws.now in
    let H = c.args.plan.now.history.now in
    let first = g.K.Keeper.kept c.args.keeper.now in
    c.in_ok-take_all_turns.ensures.run given
    (λ low. begins low
    (c.in_ok-take_all_turns.ensures.kept first (c.in_ok-run.ensures.kept book H)
    ∙ ap (λ (xs : List (List ℕ)). first ++ xs)
    (kept-since S c.args.due (saved_before S book H) (turn_count S.shape) (omega arith) low)))

pub returns-clause-ok : goal.returns-clause-ok
returns-clause-ok g c given begins =
    let S = c.args.plan.now.script.now in
    let book = g.D.Draws.book c.args.plan.now.draws.now in
    let H = c.args.plan.now.history.now in
    let first = g.K.Keeper.kept c.args.keeper.now in
    c.in_ok-take_all_turns.ensures.ok given
    (λ low. begins low
    (c.in_ok-take_all_turns.ensures.kept first (c.in_ok-run.ensures.kept book H)
    ∙ ap (λ (xs : List (List ℕ)). first ++ xs)
    (kept-since S c.args.due (saved_before S book H) (turn_count S.shape) (omega arith) low)))
