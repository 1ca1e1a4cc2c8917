-- The serial run, in which the checkpoint is kept of the turn in which the epoch begins.
use Rattle.std.proofs.Common.{◌≡◌, ◌∙◌, ◌++◌, ◌∷◌, [], ◌*◌, ℕ, List, ap, arith, subst}
use Rattle.std.specs.Prelude.{OnOk, Some}
use Rattle.std.proofs.lemmas.Result.{on_ok_weaker}
use Rattle.tk_shape.specs.Lengths.{turn_count}
use Rattle.tk_schedule.specs.declared.history.History.{History}
use Rattle.tk_run.specs.declared.resume_error.ResumeError.TheVariants as resume
use Rattle.tk_run.specs.Keeping.{saved_before}
use Rattle.tk_run.specs.Resumption.{AcceptedSince, AllAccept, EndsAnew, FrontsAnew, GainsAnew, IfRefused}
use Rattle.tk_run.specs.Resumption.{IfTapFails, RefusedSince, resumed_after, resumed_at, sight_anew}
use Rattle.tk_io.proofs.Offers.{fronts-none, on_err}
use Rattle.tk_run.proofs.ErrorLaws.{no-memory, passed-on}
use Rattle.tk_run.proofs.KeepingLaws.{due-in, kept-since}
use Rattle.tk_run.proofs.serially.resumed_by.Goals as goal

pub returns-clause-kept : goal.returns-clause-kept
returns-clause-kept g c =
    let S = c.args.script.now in
    let book = g.D.Draws.book c.args.draws.now in
    let due = c.args.epoch * S.shape.ticks in
    let first = g.K.Keeper.kept c.args.keeper.now in
    let last = g.K.Keeper.kept c.run_turns.new.keeper in
    subst (λ (H : History). OnOk c.run_turns.result (last ≡ first ++ saved_before S book H due ∷ []))
    c.in_ok-history.ensures.serial
    (on_ok_weaker c.run_turns.result
    (λ is. is
    ∙ ap (λ (xs : List (List ℕ)). first ++ xs)
    (kept-since S (Some due) (saved_before S book c.in_ok-history.history) (turn_count S.shape)
    (omega arith) (due-in S.shape c.args.epoch c.requires.within)))
    c.run_turns.ensures.kept)

pub returns-clause-accepted : goal.returns-clause-accepted
returns-clause-accepted g c =
    let S = c.args.script.now in
    let book = g.D.Draws.book c.args.draws.now in
    let due = c.args.epoch * S.shape.ticks in
    subst (λ (H : History). OnOk c.run_turns.result (AllAccept (resumed_at S book H (Some due))
    (g.K.Keeper.gives c.run_turns.new.keeper))) c.in_ok-history.ensures.serial
    (c.run_turns.ensures.accepted (due-in S.shape c.args.epoch c.requires.within))

pub returns-clause-refused : goal.returns-clause-refused
returns-clause-refused g c =
    let S = c.args.script.now in
    let book = g.D.Draws.book c.args.draws.now in
    let due = c.args.epoch * S.shape.ticks in
    let kept = g.K.Keeper.kept in
    subst (λ (H : History). IfRefused c.run_turns.result (RefusedSince (resumed_at S book H (Some due))
    (kept c.args.keeper.now) kept g.K.Keeper.gives c.run_turns.new.keeper))
    c.in_ok-history.ensures.serial c.run_turns.ensures.refused

pub returns-clause-failed : goal.returns-clause-failed
returns-clause-failed g c =
    let S = c.args.script.now in
    let book = g.D.Draws.book c.args.draws.now in
    let due = c.args.epoch * S.shape.ticks in
    let kept = g.K.Keeper.kept in
    subst (λ (H : History). IfTapFails c.run_turns.result (AcceptedSince (resumed_at S book H (Some due))
    (kept c.args.keeper.now) kept g.K.Keeper.gives c.run_turns.new.keeper))
    c.in_ok-history.ensures.serial c.run_turns.ensures.failed

pub returns-in_err-history-clause-refused : goal.returns-in_err-history-clause-refused
returns-in_err-history-clause-refused g c = no-memory c.from_residual.result _ c.from_residual.ensures.1

pub returns-in_err-history-clause-failed : goal.returns-in_err-history-clause-failed
returns-in_err-history-clause-failed g c =
    passed-on c.from_residual.result resume.Memory resume.Taps _ c.from_residual.ensures.1
    (λ is. absurd (cc is))

pub returns-clause-left : goal.returns-clause-left
returns-clause-left g c =
    let S = c.args.script.now in
    let book = g.D.Draws.book c.args.draws.now in
    let due = c.args.epoch * S.shape.ticks in
    let kept = g.K.Keeper.kept in
    subst (λ (H : History). EndsAnew (resumed_at S book H (Some due)) (kept c.args.keeper.now) kept
    g.K.Keeper.gives c.run_turns.new.keeper c.run_turns.result)
    c.in_ok-history.ensures.serial c.run_turns.ensures.left

pub returns-clause-ok : goal.returns-clause-ok
returns-clause-ok g c =
    let S = c.args.script.now in
    let book = g.D.Draws.book c.args.draws.now in
    let due = c.args.epoch * S.shape.ticks in
    let kept = g.K.Keeper.kept in
    subst (λ (H : History). GainsAnew (resumed_at S book H (Some due)) (kept c.args.keeper.now) kept
    g.K.Keeper.gives c.run_turns.new.keeper c.run_turns.result g.T.Taps.tap c.args.taps.now
    c.run_turns.new.taps)
    c.in_ok-history.ensures.serial c.run_turns.ensures.ok

pub returns-clause-err : goal.returns-clause-err
returns-clause-err g c =
    let S = c.args.script.now in
    let book = g.D.Draws.book c.args.draws.now in
    let due = c.args.epoch * S.shape.ticks in
    let kept = g.K.Keeper.kept in
    subst (λ (H : History). FrontsAnew (resumed_at S book H (Some due)) (kept c.args.keeper.now) kept
    g.K.Keeper.gives c.run_turns.new.keeper c.run_turns.result g.T.Taps.tap c.args.taps.now
    c.run_turns.new.taps)
    c.in_ok-history.ensures.serial c.run_turns.ensures.err

pub returns-in_err-history-clause-err : goal.returns-in_err-history-clause-err
returns-in_err-history-clause-err g c given begins =
    let S = c.args.script.now in
    let book = g.D.Draws.book c.args.draws.now in
    on_err _ c.from_residual.result
    (fronts-none S.shape.servers (sight_anew (resumed_after S book c.args.epoch) given)
    (g.T.Taps.tap c.args.taps.now))
