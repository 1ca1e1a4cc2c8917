-- What an answer says of the lines goes on to what is said of more of them.
use Rattle.std.proofs.Common.{◌≡◌, ℕ, Result, Ok, Err, ap, sym, ◌∙◌, subst}
use Rattle.tk_script.specs.declared.cause.Cause.{Cause}
use Rattle.tk_script.specs.declared.error.ScriptError.{ScriptError}
use Rattle.tk_script.specs.declared.error.ScriptError.TheVariants.{Line, Memory}
use Rattle.tk_script.specs.Answer.{IsRefusal, Agrees}
use Rattle.tk_script.specs.Reading.{Refusal, ◌>>=◌}

-- a line that is refused first stays the first
pub stays_refused : {X Y : Type 0} (e : ScriptError) (said : Result X Refusal)
    (f : X → Result Y Refusal) → IsRefusal e said → IsRefusal e (said >>= f)
stays_refused (Line line c) said f h = ap (λ r. r >>= f) h
stays_refused Memory said f h = tt

-- what is said the same is refused the same
pub same_refused : {X : Type 0} (e : ScriptError) (said other : Result X Refusal) →
    other ≡ said → IsRefusal e said → IsRefusal e other
same_refused (Line line c) said other same h = same ∙ h
same_refused Memory said other same h = tt

-- ---- parts one after the other

-- after a part that is read, what goes on from it is said
pub then_said : {X Y : Type 0} {said : Result X Refusal} {x : X} {r : Result Y Refusal}
    (f : X → Result Y Refusal) → said ≡ Ok x → f x ≡ r → said >>= f ≡ r
then_said f e rest = ap (λ r. r >>= f) e ∙ rest

-- and refused
pub then_refused : {X Y : Type 0} {said : Result X Refusal} {x : X} (e : ScriptError)
    (f : X → Result Y Refusal) → said ≡ Ok x → IsRefusal e (f x) → IsRefusal e (said >>= f)
then_refused {X} {Y} {said} {x} e f read h =
    same_refused e (f x) (said >>= f) (ap (λ r. r >>= f) read) h

-- ---- answers that are errors

pub tells_err : {X Y : Type 0} (r : Result X ScriptError) (e : ScriptError) (f : X → Y)
    (said : Result Y Refusal) → r ≡ Err e → IsRefusal e said → Agrees f r said
tells_err r e f said same h = subst (λ s. Agrees f s said) (sym same) h

-- the error that names the line which is said to be refused
pub refused_as : {Y : Type 0} (e : ScriptError) (line : ℕ) (c : Cause) (said : Result Y Refusal) →
    e ≡ Line line c → said ≡ Err (line, c) → IsRefusal e said
refused_as e line c said same h = subst (λ s. IsRefusal s said) (sym same) h

pub told_refused : {X Y : Type 0} (r : Result X ScriptError) (e : ScriptError) (f : X → Y)
    (said : Result Y Refusal) (line : ℕ) (c : Cause) → r ≡ Err e → e ≡ Line line c →
    said ≡ Err (line, c) → Agrees f r said
told_refused r e f said line c same this h =
    tells_err r e f said same (refused_as e line c said this h)

pub told_same : {X Y : Type 0} (r : Result X ScriptError) (f : X → Y) (said other : Result Y
    Refusal) → other ≡ said → Agrees f r said → Agrees f r other
told_same r f said other same h = subst (λ s. Agrees f r s) (sym same) h

-- for answers of parts that are read one after the other
pub ruleset in_turn = (tells_err, then_said, then_refused, stays_refused)
