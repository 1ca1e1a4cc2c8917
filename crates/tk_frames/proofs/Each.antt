-- What each element of a list has.
use Rattle.std.proofs.Common.{List, [], ◌∷◌, ◌++◌, Bool, true, false, cond, filter}
use Rattle.std.specs.List.{AllByRecursion}

pub each-both : {X : Type 0} (P Q : X → Type 0) (xs : List X) → AllByRecursion P xs →
    AllByRecursion Q xs → AllByRecursion (λ x. P x × Q x) xs
each-both P Q [] h k = tt
each-both P Q (x ∷ xs) h k = ((h.0, k.0), each-both P Q xs h.1 k.1)

pub each-filter : {X : Type 0} (P : X → Type 0) (test : X → Bool) (xs : List X) →
    AllByRecursion P xs → AllByRecursion P (filter test xs)
each-filter P test [] h = tt
each-filter P test (x ∷ xs) h =
    let later = each-filter P test xs h.1 in
    elim (test x) as (λ b. AllByRecursion P (cond b (x ∷ filter test xs) (filter test xs))) [
      | true ↦ (h.0, later)
      | false ↦ later
    ]

pub each-push : {X : Type 0} (P : X → Type 0) (xs : List X) (x : X) → AllByRecursion P xs → P x →
    AllByRecursion P (xs ++ x ∷ [])
each-push P [] x h new = (new, tt)
each-push P (y ∷ xs) x h new = (h.0, each-push P xs x h.1 new)

pub each-split : {X : Type 0} (P : X → Type 0) (xs : List X) (x : X) →
    AllByRecursion P (xs ++ x ∷ []) → AllByRecursion P xs × P x
each-split P [] x h = (tt, h.0)
each-split P (y ∷ xs) x h = let rest = each-split P xs x h.1 in ((h.0, rest.0), rest.1)
