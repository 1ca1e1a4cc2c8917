-- What stands in a list.
use Rattle.std.proofs.Common.{◌≡◌, ℕ, zero, suc, ◌⊎◌, inl, inr, refl, ap, sym, ◌∙◌, subst, arith}
use Rattle.std.proofs.Common.{List, [], ◌∷◌, ◌++◌, length, Bool, true, false, cond, ◌<◌, map, filter}
use Rattle.std.specs.Prelude.{Option, Some, None, slice_index_or, flat_map}
use Rattle.std.proofs.lemmas.Bool.{and_parts}
use Rattle.std.specs.List.{list_all, AllByRecursion, All, Contains, filter_map, cons_option}
use Rattle.std.proofs.lemmas.List.Elements.{All-contains}
use Rattle.tk_frames.specs.Lists.{IsIn, IsFrom, IsAt}

in_from_index : {X : Type 0} (xs : List X) (k : ℕ) (x : X) → k < length xs →
    slice_index_or xs k x ≡ x → IsIn xs x
in_from_index [] k x low e = absurd (omega (arith, low))
in_from_index (y ∷ ys) zero x low e = inl e
in_from_index (y ∷ ys) (suc k) x low e = inr (in_from_index ys k x (omega (arith, low)) e)

pub in_from_contains : {X : Type 0} (xs : List X) (x : X) → Contains xs x → IsIn xs x
in_from_contains xs x h = in_from_index xs h.0 x h.1 h.2

pub contains_from_in : {X : Type 0} (xs : List X) (x : X) → IsIn xs x → Contains xs x
contains_from_in [] x h = absurd h
contains_from_in (y ∷ ys) x (inl e) = (0, omega arith, e)
contains_from_in (y ∷ ys) x (inr h) = let later =
    contains_from_in ys x h in (suc later.0, omega (arith, later.1), later.2)

pub all_in : {X : Type 0} (P : X → Type 0) (xs : List X) (x : X) → All P xs → IsIn xs x → P x
all_in P xs x all h = All-contains P xs x all (contains_from_in xs x h)

pub each-in : {X : Type 0} (P : X → Type 0) (xs : List X) (x : X) → AllByRecursion P xs →
    IsIn xs x → P x
each-in P [] x h there = absurd there
each-in P (y ∷ xs) x h (inl e) = subst P e h.0
each-in P (y ∷ xs) x h (inr there) = each-in P xs x h.1 there

pub in-append : {X : Type 0} (xs ys : List X) (x : X) → IsIn (xs ++ ys) x → IsIn xs x ⊎ IsIn ys x
in-append [] ys x h = inr h
in-append (z ∷ xs) ys x (inl e) = inl (inl e)
in-append (z ∷ xs) ys x (inr h) = elim (in-append xs ys x h) [ inl l ↦ inl (inr l) | inr r ↦ inr r ]

pub in_front : {X : Type 0} (xs ys : List X) (x : X) → IsIn xs x → IsIn (xs ++ ys) x
in_front [] ys x h = absurd h
in_front (z ∷ xs) ys x (inl e) = inl e
in_front (z ∷ xs) ys x (inr h) = inr (in_front xs ys x h)

pub in_back : {X : Type 0} (xs ys : List X) (x : X) → IsIn ys x → IsIn (xs ++ ys) x
in_back [] ys x h = h
in_back (z ∷ xs) ys x h = inr (in_back xs ys x h)

pub in_map : {X Y : Type 0} (f : X → Y) (xs : List X) (x : X) → IsIn xs x → IsIn (map f xs) (f x)
in_map f [] x h = absurd h
in_map f (z ∷ xs) x (inl e) = inl (ap f e)
in_map f (z ∷ xs) x (inr h) = inr (in_map f xs x h)

pub from_map : {X Y : Type 0} (f : X → Y) (xs : List X) (y : Y) → IsIn (map f xs) y →
    IsFrom f xs y
from_map f [] y h = absurd h
from_map f (x ∷ xs) y (inl e) = record { origin = x; there = inl refl; gives = e }
from_map f (x ∷ xs) y (inr h) = let later =
    from_map f xs y h in record {
      origin = later.origin;
      there = inr later.there;
      gives = later.gives;
    }

pub in_filter : {X : Type 0} (test : X → Bool) (xs : List X) (x : X) → IsIn xs x → test x ≡ true →
    IsIn (filter test xs) x
in_filter test [] x h passes = absurd h
in_filter test (z ∷ xs) x (inl e) passes =
    subst (λ b. IsIn (cond b (z ∷ filter test xs) (filter test xs)) x) (sym (ap test e ∙ passes))
    (inl e)
in_filter test (z ∷ xs) x (inr h) passes =
    let later = in_filter test xs x h passes in
    elim (test z) as (λ b. IsIn (cond b (z ∷ filter test xs) (filter test xs)) x) [
      | true ↦ inr later
      | false ↦ later
    ]

pub from_filter : {X : Type 0} (test : X → Bool) (xs : List X) (x : X) → IsIn (filter test xs) x →
    IsIn xs x
from_filter test [] x h = absurd h
from_filter test (z ∷ xs) x h =
    elim (test z) as (λ b. IsIn (cond b (z ∷ filter test xs) (filter test xs)) x →
    IsIn (z ∷ xs) x) [
      | true ↦ λ h. elim h [ inl e ↦ inl e | inr k ↦ inr (from_filter test xs x k) ]
      | false ↦ λ h. inr (from_filter test xs x h)
    ] h

pub in_filter_map : {X Y : Type 0} (f : X → Option Y) (xs : List X) (x : X) (y : Y) → IsIn xs x →
    f x ≡ Some y → IsIn (filter_map f xs) y
in_filter_map f [] x y h gives = absurd h
in_filter_map f (z ∷ xs) x y (inl e) gives =
    subst (λ o. IsIn (cons_option o (filter_map f xs)) y) (sym (ap f e ∙ gives)) (inl refl)
in_filter_map f (z ∷ xs) x y (inr h) gives =
    let later = in_filter_map f xs x y h gives in
    elim (f z) as (λ o. IsIn (cons_option o (filter_map f xs)) y) [
      | None ↦ later
      | Some v ↦ inr later
    ]

-- what comes of a later one
from_later : {X Y : Type 0} (f : X → Y) (x : X) (xs : List X) (y : Y) → IsFrom f xs y →
    IsFrom f (x ∷ xs) y
from_later f x xs y l = record { origin = l.origin; there = inr l.there; gives = l.gives }

pub from_filter_map : {X Y : Type 0} (f : X → Option Y) (xs : List X) (y : Y) →
    IsIn (filter_map f xs) y → IsFrom f xs (Some y)
from_filter_map f [] y h = absurd h
from_filter_map {X} {Y} f (x ∷ xs) y h =
    elim (f x) as (λ o. f x ≡ o → IsIn (cons_option o (filter_map f xs)) y →
    IsFrom f (x ∷ xs) (Some y)) [
      | None ↦ λ _ k. from_later f x xs (Some y) (from_filter_map f xs y k)
      | Some v ↦ λ e k. elim k [
        | inl same ↦ record {
          origin = x;
          there = inl refl;
          gives = e ∙ ap {B = Option Y} Some same;
        }
        | inr k ↦ from_later f x xs (Some y) (from_filter_map f xs y k)
      ]
    ] refl h

-- something in the lists that each give
pub in_flat_map : {X Y : Type 0} (f : X → List Y) (xs : List X) (d : X) (k : ℕ) (y : Y) →
    k < length xs → IsIn (f (slice_index_or xs k d)) y → IsIn (flat_map f xs) y
in_flat_map f [] d k y low h = absurd (omega (arith, low))
in_flat_map f (x ∷ xs) d zero y low h = in_front (f x) (flat_map f xs) y h
in_flat_map f (x ∷ xs) d (suc k) y low h =
    in_back (f x) (flat_map f xs) y (in_flat_map f xs d k y (omega (arith, low)) h)

pub from_flat_map : {X Y : Type 0} (f : X → List Y) (xs : List X) (d : X) (y : Y) →
    IsIn (flat_map f xs) y → IsAt f xs d y
from_flat_map f [] d y h = absurd h
from_flat_map f (x ∷ xs) d y h =
    elim (in-append (f x) (flat_map f xs) y h) [
      | inl l ↦ record { index = 0; low = omega arith; there = l }
      | inr r ↦ let later = from_flat_map f xs d y r in record {
        index = suc later.index;
        low = (let low = later.low in omega (arith, low));
        there = later.there;
      }
    ]

pub nothing_in : {X : Type 0} (xs : List X) → ((x : X) → IsIn xs x → ⊥) → xs ≡ []
nothing_in [] h = refl
nothing_in (x ∷ xs) h = absurd (h x (inl refl))

-- where all pass, what is in the list does
pub all-at : {X : Type 0} (test : X → Bool) (xs : List X) (x : X) → list_all test xs ≡ true → IsIn xs x →
    test x ≡ true
all-at test [] x all there = absurd there
all-at test (y ∷ xs) x all (inl e) = subst (λ z. test z ≡ true) e (and_parts (test y) (list_all test xs) all).0
all-at test (y ∷ xs) x all (inr there) = all-at test xs x (and_parts (test y) (list_all test xs) all).1 there
