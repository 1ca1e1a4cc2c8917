-- What errands have brought, one after the other.
use Rattle.std.proofs.Common.{◌≡◌, ℕ, ◌+◌, List, [], ◌∷◌, ◌++◌, All, length, take, drop, refl, ap, ◌∙◌, subst, arith, length-append, append-nil}
use Rattle.std.specs.Prelude.{IfOk, Result, Ok}
use Rattle.std.proofs.lemmas.List.{get_or_append_left, get_or_push, drop_all, take_all}
use Rattle.std.proofs.lemmas.List.Elements.{All-push, All-same}

-- what holds of each element of a list with one more holds of each of the list, and of that one
pub all-front : {X : Type 0} (P : X → Type 0) (xs : List X) (x : X) → All P (xs ++ x ∷ []) →
    All P xs
all-front P xs x all i d low =
    subst P (get_or_append_left xs (x ∷ []) d i low)
    (all i d (omega (arith, low, length-append xs (x ∷ []))))

pub all-last : {X : Type 0} (P : X → Type 0) (xs : List X) (x : X) → All P (xs ++ x ∷ []) → P x
all-last P xs x all =
    subst P (get_or_push xs x x (length xs) refl)
    (all (length xs) x (omega (arith, length-append xs (x ∷ []))))

-- one more was brought
pub brought-next : {X Y E : Type 0} (P : Y → Type 0) (brought : X → Result Y E) (xs : List X) (x : X)
    (ys zs : List Y) (y : Y) → brought x ≡ Ok y → zs ≡ ys ++ y ∷ [] →
    (All (λ e. IfOk (brought e) P) xs → All P ys) →
    All (λ e. IfOk (brought e) P) (xs ++ x ∷ []) → All P zs
brought-next {X} {Y} {E} P brought xs x ys zs y is pushed before all =
    All-same P zs (ys ++ y ∷ []) pushed
    (All-push P ys y (before (all-front (λ e. IfOk (brought e) P) xs x all))
    (subst (λ (r : Result Y E). IfOk r P) is (all-last (λ e. IfOk (brought e) P) xs x all)))

-- a list of as many elements that is written back over another is all that is there
pub written-back : {X : Type 0} (n : ℕ) (new old : List X) → length new ≡ length old → n ≡ length old →
    take n (new ++ drop (length new) old) ≡ new
written-back n new old same all =
    ap (λ rest. take n (new ++ rest)) (drop_all (length new) old (omega (arith, same)))
    ∙ ap (take n) (append-nil new)
    ∙ take_all n new (omega (arith, same, all))
