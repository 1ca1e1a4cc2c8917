-- Lines that tell a history have no bad line, and tell no other.
use Rattle.std.proofs.Common.{◌≡◌, ◌∙◌, ℕ, ap, subst}
use Rattle.std.specs.Prelude.{None, List}
use Rattle.tk_schedule.specs.declared.history.TurnOrder.{TurnOrder}
use Rattle.std.proofs.lemmas.Result.{err_from_is_err_and}
use Rattle.tk_schedule.specs.Due.{bad_line}
use Rattle.tk_schedule.specs.Told.{Tells}
use Rattle.tk_schedule.proofs.BadLineLaws.{tells_one, tells_none, only_memory}
use Rattle.tk_schedule.proofs.history.History.from_raw.Goals as goal

pub returns-in_err-turns_in-clause-only : goal.returns-in_err-turns_in-clause-only
returns-in_err-turns_in-clause-only c h told =
    let none = ap (bad_line c.args.shape.now) c.as_slice.ensures.lines
    ∙ tells_none c.args.shape.now c.args.raw.now h told in
    let p = err_from_is_err_and c.from_residual.result c.from_residual.ensures.1 in
    rw (p.1, p.2) (only_memory {X = ℕ} {Y = List TurnOrder} (λ x. None)
    c.in_err-turns_in.field-0.0 _ (λ g. g ≡ h) none c.in_err-turns_in.ensures.bad)

pub returns-clause-only : goal.returns-clause-only
returns-clause-only c h told =
    let read : Tells c.args.shape.now c.args.raw.now c.in_ok-turns_in.field-0.items =
    subst (λ r. Tells c.args.shape.now r c.in_ok-turns_in.field-0.items) c.as_slice.ensures.lines
    c.in_ok-turns_in.ensures.told in
    tells_one c.args.shape.now c.args.raw.now c.in_ok-turns_in.field-0.items h read told
