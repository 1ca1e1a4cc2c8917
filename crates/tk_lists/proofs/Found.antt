-- What is found in a list, and what an option is made from.
use Rattle.std.proofs.Common.{◌≡◌, true, false, List, [], ◌∷◌, Bool, Option, Some, None, option_map, find, cond}
use Rattle.std.proofs.Common.{refl, subst}

-- what is found passes
pub found-passes : {X : Type 0} (test : X → Bool) (xs : List X) (x : X) → find test xs ≡ Some x → test x ≡ true
found-passes test [] x e = absurd (cc e)
found-passes test (y ∷ xs) x e =
    elim (test y) as (λ b. test y ≡ b → cond b (Some y) (find test xs) ≡ Some x → test x ≡ true) [
      | true ↦ λ passes same. let here : y ≡ x = cc same in subst (λ z. test z ≡ true) here passes
      | false ↦ λ _ later. found-passes test xs x later
    ] refl e

pub option_map-from : {X Y : Type 0} (f : X → Y) (o : Option X) (y : Y) → option_map f o ≡ Some y →
    (x : X) × (o ≡ Some x) × (f x ≡ y)
option_map-from f None y e = absurd (cc e)
option_map-from f (Some x) y e = (x, refl, cc e)
