-- Answers that are given, or aren't.
use Rattle.std.proofs.Common.{◌≡◌, Bool, true, false, cond, IsTrue, Option, Some, None, Result, Ok, Err, refl, subst}
use Rattle.std.specs.Prelude.{IsSomeAnd, IfSome}
use Rattle.std.specs.Option.{IfNone}
use Rattle.tk_script.specs.declared.cause.Cause.{Cause}
use Rattle.tk_script.specs.Reading.{Verdict, unless, seen_as}

pub never : {A : Type 0} (o : Option A) (P : A → Type 0) → o ≡ None → IsSomeAnd o P → ⊥
never o P e h = subst (λ p. IsSomeAnd p P) e h

pub if_some : {A : Type 0} (o : Option A) (P : A → Type 0) (x : A) → o ≡ Some x → IfSome o P → P x
if_some o P x e h = subst (λ p. IfSome p P) e h

-- ---- results

pub ok_same : {A E : Type 0} (x y : A) → ◌≡◌ {A = Result A E} (Ok x) (Ok y) → x ≡ y
ok_same x y e = cc e

-- this, or a cause
abbrev pub ok_or : {X : Type 0} → Bool → X → Cause → Verdict X
ok_or b x c = cond b (Ok x) (Err c)

pub ok_if : {X : Type 0} (b : Bool) (x y : X) (c : Cause) → ok_or b x c ≡ Ok y → IsTrue b × (x ≡ y)
ok_if true x y c e = (refl, ok_same x y e)
ok_if false x y c e = absurd (cc e)

-- what a verdict is, where it gives something or is a cause else
pub verdict_if : {X : Type 0} (b : Bool) (r : Verdict X) (y : X) (c : Cause) →
    cond b r (Err c) ≡ Ok y → IsTrue b × (r ≡ Ok y)
verdict_if true r y c e = (refl, e)
verdict_if false r y c e = absurd (cc e)

pub unless_from : {X : Type 0} (o : Option Cause) (x y : X) → unless o x ≡ Ok y →
    (o ≡ None) × (x ≡ y)
unless_from None x y e = (refl, ok_same x y e)
unless_from (Some c) x y e = absurd (cc e)

pub seen_from : {X Y : Type 0} (f : X → Y) (v : Verdict X) (y : Y) → seen_as f v ≡ Ok y →
    (x : X) × (v ≡ Ok x) × (f x ≡ y)
seen_from f (Ok x) y e = (x, refl, ok_same (f x) y e)
seen_from f (Err c) y e = absurd (cc e)

-- ---- told of the one that it is

pub none-then : {A : Type 0} (o : Option A) (P : Type 0) → o ≡ None → IfNone o P → P
none-then None P e h = h
none-then (Some x) P e h = absurd (cc e)

pub some-then : {A : Type 0} (o : Option A) (x : A) (P : A → Type 0) → o ≡ Some x → IfSome o P →
    P x
some-then None x P e h = absurd (cc e)
some-then (Some y) x P e h = subst P (cc e) h

pub if-none : {A : Type 0} (o : Option A) (P : Type 0) → P → IfNone o P
if-none None P h = h
if-none (Some x) P h = tt
