use Rattle.std.proofs.Common.{◌≡◌, sym, ap, ◌∙◌, subst, arith}
use Rattle.std.specs.Prelude.{IfOk, IfErr, OnOk, Result, None}
use Rattle.std.proofs.lemmas.Result.{err_from_is_err_and}
use Rattle.tk_replica.specs.Replica.{ReplicaView, StandsFor}
use Rattle.tk_checkpoint.specs.declared.error.RestoreError.{RestoreError}
use Rattle.tk_checkpoint.specs.Saved.{spelling, saved_of}
use Rattle.tk_checkpoint.specs.Reading.{saved_in}
use Rattle.tk_checkpoint.specs.Refusals.{checkpoint_refusal}
use Rattle.tk_checkpoint.specs.Writing.{state_bytes}
use Rattle.tk_checkpoint.specs.Sound.{first_refusal, restore_checks, IsSound, IsRefusal}
use Rattle.tk_checkpoint.proofs.Sounds.{sound_in}
use Rattle.tk_checkpoint.proofs.Again.{spelled_again}
use Rattle.tk_checkpoint.proofs.Written.{refusal-none}
use Rattle.tk_checkpoint.proofs.restoring.restore.Goals as goal

abbrev Answer : Type 0
Answer = Result ReplicaView RestoreError

-- ---- an unsound checkpoint

pub returns-in_err-check-clause-sound : goal.returns-in_err-check-clause-sound
returns-in_err-check-clause-sound c =
    let p = err_from_is_err_and c.from_residual.result c.from_residual.ensures.1 in
    subst (λ (r : Answer). OnOk r (IsSound c.args.shape.now c.args.bytes.now)) (sym p.1) tt

pub returns-in_err-check-clause-refused : goal.returns-in_err-check-clause-refused
returns-in_err-check-clause-refused c =
    let p = err_from_is_err_and c.from_residual.result c.from_residual.ensures.1 in
    subst (λ (r : Answer). IfErr r (IsRefusal (first_refusal (restore_checks c.args.shape.now c.args.bytes.now)))) (sym p.1)
    (subst (λ o. IsRefusal o p.0) c.in_err-check.ensures p.2)

pub returns-in_err-check-clause-shape : goal.returns-in_err-check-clause-shape
returns-in_err-check-clause-shape c =
    let p = err_from_is_err_and c.from_residual.result c.from_residual.ensures.1 in
    subst (λ (r : Answer). IfOk r (λ s. s.shape ≡ c.args.shape.now)) (sym p.1) tt

pub returns-in_err-check-clause-floor : goal.returns-in_err-check-clause-floor
returns-in_err-check-clause-floor c =
    let p = err_from_is_err_and c.from_residual.result c.from_residual.ensures.1 in
    subst (λ (r : Answer). IfOk r (λ s. s.floor ≡ s.last)) (sym p.1) tt

pub returns-in_err-check-clause-at_mark : goal.returns-in_err-check-clause-at_mark
returns-in_err-check-clause-at_mark c =
    let p = err_from_is_err_and c.from_residual.result c.from_residual.ensures.1 in
    subst (λ (r : Answer). IfOk r (λ s. checkpoint_refusal s ≡ None)) (sym p.1) tt

pub returns-in_err-check-clause-parts : goal.returns-in_err-check-clause-parts
returns-in_err-check-clause-parts c =
    let p = err_from_is_err_and c.from_residual.result c.from_residual.ensures.1 in
    subst (λ (r : Answer). IfOk r (λ s. saved_of s ≡ saved_in c.args.shape.now c.args.bytes.now)) (sym p.1) tt

pub returns-in_err-check-clause-again : goal.returns-in_err-check-clause-again
returns-in_err-check-clause-again c =
    let p = err_from_is_err_and c.from_residual.result c.from_residual.ensures.1 in
    subst (λ (r : Answer). IfOk r (λ s. state_bytes s ≡ c.args.bytes.now)) (sym p.1) tt

pub returns-in_err-check-clause-stands : goal.returns-in_err-check-clause-stands
returns-in_err-check-clause-stands c E order ends is =
    let p = err_from_is_err_and c.from_residual.result c.from_residual.ensures.1 in
    subst (λ (r : Answer). IfOk r (StandsFor c.args.shape.now E)) (sym p.1) tt

-- ---- no room for the state

pub returns-in_err-state_of-clause-sound : goal.returns-in_err-state_of-clause-sound
returns-in_err-state_of-clause-sound c =
    let p = err_from_is_err_and c.from_residual-in_err-state_of.result c.from_residual-in_err-state_of.ensures.1 in
    subst (λ (r : Answer). OnOk r (IsSound c.args.shape.now c.args.bytes.now)) (sym p.1) tt

pub returns-in_err-state_of-clause-refused : goal.returns-in_err-state_of-clause-refused
returns-in_err-state_of-clause-refused c =
    let p = err_from_is_err_and c.from_residual-in_err-state_of.result c.from_residual-in_err-state_of.ensures.1 in
    subst (λ (r : Answer). IfErr r (IsRefusal (first_refusal (restore_checks c.args.shape.now c.args.bytes.now)))) (sym p.1)
    (subst (λ o. IsRefusal o p.0) c.in_ok-check.ensures p.2)

pub returns-in_err-state_of-clause-shape : goal.returns-in_err-state_of-clause-shape
returns-in_err-state_of-clause-shape c =
    let p = err_from_is_err_and c.from_residual-in_err-state_of.result c.from_residual-in_err-state_of.ensures.1 in
    subst (λ (r : Answer). IfOk r (λ s. s.shape ≡ c.args.shape.now)) (sym p.1) tt

pub returns-in_err-state_of-clause-floor : goal.returns-in_err-state_of-clause-floor
returns-in_err-state_of-clause-floor c =
    let p = err_from_is_err_and c.from_residual-in_err-state_of.result c.from_residual-in_err-state_of.ensures.1 in
    subst (λ (r : Answer). IfOk r (λ s. s.floor ≡ s.last)) (sym p.1) tt

pub returns-in_err-state_of-clause-at_mark : goal.returns-in_err-state_of-clause-at_mark
returns-in_err-state_of-clause-at_mark c =
    let p = err_from_is_err_and c.from_residual-in_err-state_of.result c.from_residual-in_err-state_of.ensures.1 in
    subst (λ (r : Answer). IfOk r (λ s. checkpoint_refusal s ≡ None)) (sym p.1) tt

pub returns-in_err-state_of-clause-parts : goal.returns-in_err-state_of-clause-parts
returns-in_err-state_of-clause-parts c =
    let p = err_from_is_err_and c.from_residual-in_err-state_of.result c.from_residual-in_err-state_of.ensures.1 in
    subst (λ (r : Answer). IfOk r (λ s. saved_of s ≡ saved_in c.args.shape.now c.args.bytes.now)) (sym p.1) tt

pub returns-in_err-state_of-clause-again : goal.returns-in_err-state_of-clause-again
returns-in_err-state_of-clause-again c =
    let p = err_from_is_err_and c.from_residual-in_err-state_of.result c.from_residual-in_err-state_of.ensures.1 in
    subst (λ (r : Answer). IfOk r (λ s. state_bytes s ≡ c.args.bytes.now)) (sym p.1) tt

pub returns-in_err-state_of-clause-stands : goal.returns-in_err-state_of-clause-stands
returns-in_err-state_of-clause-stands c E order ends is =
    let p = err_from_is_err_and c.from_residual-in_err-state_of.result c.from_residual-in_err-state_of.ensures.1 in
    subst (λ (r : Answer). IfOk r (StandsFor c.args.shape.now E)) (sym p.1) tt

-- ---- the state

pub returns-clause-at_mark : goal.returns-clause-at_mark
returns-clause-at_mark c =
    refusal-none c.in_ok-state_of.field-0 c.in_ok-state_of.ensures.parts.at_mark

pub returns-clause-again : goal.returns-clause-again
returns-clause-again c =
    let shape = c.args.shape.now in
    let bytes = c.args.bytes.now in
    let sound = sound_in shape bytes (sym c.in_ok-check.ensures) in
    c.in_ok-state_of.ensures.parts.written
    ∙ ap (spelling shape) c.in_ok-state_of.ensures.parts.parts
    ∙ spelled_again shape bytes (λ i. omega (arith, c.type_inv.bytes i)) sound.head
