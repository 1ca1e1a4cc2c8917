-- What functions give of lists, and what each element of what they give has.
use Rattle.std.proofs.Common.{◌≡◌, refl, ap, ap₂, ◌∙◌, arith, ℕ, zero, suc, ◌+◌, ◌<◌, ◌≤◌, List, [], ◌∷◌, ◌++◌, map, flat_map}
use Rattle.std.specs.List.{AllByRecursion, range_with_len}
use Rattle.std.proofs.lemmas.Grind.{flat_map-append}

pub map-map : {X Y Z : Type 0} (f : Y → Z) (h : X → Y) (xs : List X) →
    map f (map h xs) ≡ map (λ x. f (h x)) xs
map-map f h [] = refl
map-map f h (x ∷ xs) = ap (λ rest. f (h x) ∷ rest) (map-map f h xs)

pub map_same : {X Y : Type 0} (f g : X → Y) → ((x : X) → f x ≡ g x) → (xs : List X) →
    map f xs ≡ map g xs
map_same f g same [] = refl
map_same f g same (x ∷ xs) = ap₂ (λ y ys. y ∷ ys) (same x) (map_same f g same xs)

-- two functions that agree on numbers make one list of them
pub map-range : {X : Type 0} (f g : ℕ → X) (a n : ℕ) →
    ((k : ℕ) → a ≤ k → k < a + n → f k ≡ g k) →
    map f (range_with_len a n) ≡ map g (range_with_len a n)
map-range f g a zero same = refl
map-range f g a (suc n) same =
    ap₂ (λ x xs. x ∷ xs) (same a (omega arith) (omega arith))
    (map-range f g (a + 1) n (λ k low high. same k (omega (arith, low)) (omega (arith, high))))

-- what is made of numbers has what each of it has
pub each-made : {X : Type 0} (P : X → Type 0) (f : ℕ → X) (a n : ℕ) →
    ((k : ℕ) → a ≤ k → k < a + n → P (f k)) → AllByRecursion P (map f (range_with_len a n))
each-made P f a zero each = tt
each-made P f a (suc n) each = (
  each a (omega arith) (omega arith),
  each-made P f (a + 1) n (λ k low high. each k (omega (arith, low)) (omega (arith, high))),
)

-- lists of lists, joined twice
pub flat_map-flat_map : {X Y Z : Type 0} (g : Y → List Z) (f : X → List Y) (xs : List X) →
    flat_map g (flat_map f xs) ≡ flat_map (λ x. flat_map g (f x)) xs
flat_map-flat_map g f [] = refl
flat_map-flat_map g f (x ∷ xs) =
    flat_map-append g (f x) (flat_map f xs)
    ∙ ap (λ rest. flat_map g (f x) ++ rest) (flat_map-flat_map g f xs)
