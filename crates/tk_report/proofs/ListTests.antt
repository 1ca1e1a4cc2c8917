-- Tests of all elements.
use Rattle.std.proofs.Common.{◌<◌, ℕ, zero, suc, List, [], ◌∷◌, length, get_or, arith, Bool, IsTrue}
use Rattle.std.specs.List.{list_all}
use Rattle.std.proofs.lemmas.Bool.{and_parts as parts}

-- what all pass, each passes
pub list_all-at : {X : Type 0} (p : X → Bool) (xs : List X) (i : ℕ) (d : X) → i < length xs →
    IsTrue (list_all p xs) → IsTrue (p (get_or xs i d))
list_all-at p [] i d within all = absurd (omega (arith, within))
list_all-at p (x ∷ xs) zero d within all = (parts (p x) (list_all p xs) all).0
list_all-at p (x ∷ xs) (suc i) d within all =
    list_all-at p xs i d (omega (arith, within)) (parts (p x) (list_all p xs) all).1
