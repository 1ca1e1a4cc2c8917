-- What is made of numbers, and what each element of a list has.
use Rattle.std.proofs.Common.{◌≡◌, ℕ, zero, suc, ◌+◌, ◌-◌, List, [], ◌∷◌, length, map, get_or, set, replicate}
use Rattle.std.proofs.Common.{refl, ap, ap₂, ◌∙◌, arith}
use Rattle.std.specs.List.{AllByRecursion, range_with_len}
use Rattle.tk_report.proofs.Offers.{map-range}

-- a list, element by element
pub list-again : {X : Type 0} (xs : List X) (a : ℕ) (d : X) →
    map (λ j. get_or xs (j - a) d) (range_with_len a (length xs)) ≡ xs
list-again [] a d = refl
list-again {X} (x ∷ xs) a d =
    let none : a - a ≡ 0 = omega arith in
    ap₂ (λ (y : X) (ys : List X). y ∷ ys) (ap (λ k. get_or (x ∷ xs) k d) none)
    (map-range (λ j. get_or (x ∷ xs) (j - a) d) (λ j. get_or xs (j - (a + 1)) d) (a + 1) (length xs)
    (λ j low high. let more : j - a ≡ suc (j - (a + 1)) = omega (arith, low) in
    ap (λ k. get_or (x ∷ xs) k d) more)
    ∙ list-again xs (a + 1) d)

pub map-replicate : {X Y : Type 0} (f : X → Y) (n : ℕ) (x : X) →
    map f (replicate n x) ≡ replicate n (f x)
map-replicate f zero x = refl
map-replicate f (suc n) x = ap (λ ys. f x ∷ ys) (map-replicate f n x)

pub set-twice : {X : Type 0} (xs : List X) (i : ℕ) (x y : X) → set (set xs i x) i y ≡ set xs i y
set-twice [] i x y = refl
set-twice (z ∷ zs) zero x y = refl
set-twice (z ∷ zs) (suc i) x y = ap (λ ws. z ∷ ws) (set-twice zs i x y)

-- ---- each element

pub each-set : {X : Type 0} (P : X → Type 0) (xs : List X) (i : ℕ) (x : X) → AllByRecursion P xs →
    P x → AllByRecursion P (set xs i x)
each-set P [] i x all new = tt
each-set P (y ∷ xs) zero x all new = (new, all.1)
each-set P (y ∷ xs) (suc i) x all new = (all.0, each-set P xs i x all.1 new)
