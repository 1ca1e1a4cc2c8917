-- Lists that are made element by element.
use Rattle.std.proofs.Common.{◌≡◌, ◌≢◌, ℕ, zero, suc, ◌+◌, ◌<◌, ◌≤◌, List, [], ◌∷◌, ◌++◌, length, get_or, flat_map, map}
use Rattle.std.proofs.Common.{refl, ap, ap₂, ◌∙◌, arith, inl, inr, append-nil}
use Rattle.std.specs.List.{range_with_len}
use Rattle.std.proofs.lemmas.Bool.{cases_lt, cases_eq}

pub flat_map-each : {X Y : Type 0} (f h : X → List Y) (xs : List X) (d : X) →
    ((i : ℕ) → i < length xs → f (get_or xs i d) ≡ h (get_or xs i d)) → flat_map f xs ≡ flat_map h xs
flat_map-each f h [] d same = refl
flat_map-each {X} {Y} f h (x ∷ xs) d same =
    ap₂ (λ (a b : List Y). a ++ b) (same 0 (omega arith))
    (flat_map-each f h xs d (λ i low. same (suc i) (omega (arith, low))))

pub flat_map-none : {Y : Type 0} (f : ℕ → List Y) (a n : ℕ) →
    ((k : ℕ) → a ≤ k → k < a + n → f k ≡ []) → flat_map f (range_with_len a n) ≡ []
flat_map-none f a zero none = refl
flat_map-none {Y} f a (suc n) none =
    ap₂ (λ (x y : List Y). x ++ y) (none a (omega arith) (omega arith))
    (flat_map-none f (a + 1) n (λ k low high. none k (omega (arith, low)) (omega (arith, high))))

-- of one number alone something is made
flat_map-only : {Y : Type 0} (f : ℕ → List Y) (a n c : ℕ) → a ≤ c → c < a + n →
    ((k : ℕ) → a ≤ k → k < a + n → k ≢ c → f k ≡ []) → flat_map f (range_with_len a n) ≡ f c
flat_map-only f a zero c low high none = absurd (omega (arith, low, high))
flat_map-only {Y} f a (suc n) c low high none =
    elim (cases_eq a c) [
      | inl same ↦
          ap₂ (λ (x y : List Y). x ++ y) (ap f same)
          (flat_map-none f (a + 1) n (λ k from to.
          none k (omega (arith, from)) (omega (arith, to)) (λ e. omega (arith, e, from, same))))
          ∙ append-nil (f c)
      | inr other ↦
          ap (λ (x : List Y). x ++ flat_map f (range_with_len (a + 1) n)) (none a (omega arith) (omega arith) other)
          ∙ flat_map-only f (a + 1) n c (above a c other low) (omega (arith, high))
          (λ k from to. none k (omega (arith, from)) (omega (arith, to)))
    ]
  where
    above : (x y : ℕ) → x ≢ y → x ≤ y → x + 1 ≤ y
    above x y differ le = elim (cases_lt x y) [
      | inl lt ↦ omega (arith, lt)
      | inr ge ↦ absurd (differ (omega (arith, ge, le)))
    ]

pub flat_map-one : {Y : Type 0} (f : ℕ → List Y) (n c : ℕ) → c < n →
    ((k : ℕ) → k < n → k ≢ c → f k ≡ []) → flat_map f (range_with_len 0 n) ≡ f c
flat_map-one f n c low none =
    flat_map-only f 0 n c (omega arith) (omega (arith, low))
    (λ k from to other. none k (omega (arith, to)) other)

-- what two functions give for each element of a list
pub map-each : {X Y : Type 0} (f h : X → Y) (xs : List X) (d : X) →
    ((i : ℕ) → i < length xs → f (get_or xs i d) ≡ h (get_or xs i d)) → map f xs ≡ map h xs
map-each f h [] d same = refl
map-each {X} {Y} f h (x ∷ xs) d same =
    ap₂ (λ (y : Y) (ys : List Y). y ∷ ys) (same 0 (omega arith))
    (map-each f h xs d (λ i low. same (suc i) (omega (arith, low))))

-- what one function gives for what another gave
pub map-both : {X Y Z : Type 0} (f : Y → Z) (g : X → Y) (h : X → Z) (xs : List X) →
    ((x : X) → f (g x) ≡ h x) → map f (map g xs) ≡ map h xs
map-both f g h [] same = refl
map-both {X} {Y} {Z} f g h (x ∷ xs) same =
    ap₂ (λ (z : Z) (zs : List Z). z ∷ zs) (same x) (map-both f g h xs same)
