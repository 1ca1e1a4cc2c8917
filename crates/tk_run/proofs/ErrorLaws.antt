-- What holds where a call gave an error, or an answer.
use Rattle.std.proofs.Common.{◌≡◌, ◌∙◌, sym, subst}
use Rattle.std.specs.Prelude.{Result, Ok, Err, IfErr, IsErrAnd, OnOk}
use Rattle.std.proofs.lemmas.Result.{err_from_is_err_and}
use Rattle.tk_run.specs.declared.resume_error.ResumeError.{ResumeError}
use Rattle.tk_run.specs.declared.resume_error.ResumeError.TheVariants as resume

-- what follows from two facts that hold with an answer
pub both_ok : {T E P Q R : Type 0} (r : Result T E) → (P → Q → R) → OnOk r P → OnOk r Q → OnOk r R
both_ok (Ok x) then p q = then p q
both_ok (Err e) then p q = tt

-- what is said of an error is said where it is passed on
pub passed-on : {T : Type 0} (r : Result T ResumeError) (e kind : ResumeError) (P : Type 0) →
    IsErrAnd r (λ y. y ≡ e) → (e ≡ kind → P) → IfErr r (λ y. y ≡ kind → P)
passed-on r e kind P was said =
    let p = err_from_is_err_and r was in
    subst (λ (x : Result _ ResumeError). IfErr x (λ y. y ≡ kind → P)) (sym p.1)
    (λ is. said (sym p.2 ∙ is))

-- want of memory is no refusal, and no failure of a tap
pub no-memory : {T : Type 0} (r : Result T ResumeError) (P : Type 0) →
    IsErrAnd r (λ y. y ≡ resume.Memory) → IfErr r (λ y. y ≡ resume.Refused → P)
no-memory r P was = passed-on r resume.Memory resume.Refused P was (λ is. absurd (cc is))
