-- What is said depends on whether the number is even.
use Rattle.std.proofs.Common.{◌≡◌, ℕ, zero, suc, ◌+◌, ◌%◌, ◌<◌, ◌==◌, Bool, cond}
use Rattle.std.proofs.Common.{List, [], ◌∷◌, ◌++◌, map, filter, flat_map, ap, ap₂, refl, subst, arith}
use Rattle.std.specs.List.{range_with_len}
use Rattle.tk_script.specs.declared.say.Say.{Say}
use Rattle.tk_make.specs.Making.{is_said, made_say, said_in_tick, said_in_phase, made_says}

pub is_said-parity : (n p t g : ℕ) → is_said (n % 2) p t g ≡ is_said n p t g
is_said-parity n p t g =
    let e : (n % 2 + p + t + g) % 2 ≡ (n + p + t + g) % 2 = omega arith in
    ap (λ (x : ℕ). x == 0) e

filter-same : {A : Type 0} (p q : A → Bool) (xs : List A) → ((x : A) → p x ≡ q x) →
    filter p xs ≡ filter q xs
filter-same p q [] same = refl
filter-same {A} p q (x ∷ xs) same =
    ap₂ (λ (b : Bool) (ys : List A). cond b (x ∷ ys) ys) (same x) (filter-same p q xs same)

flat_map-same : {X A : Type 0} (f h : X → List A) (xs : List X) → ((x : X) → f x ≡ h x) →
    flat_map f xs ≡ flat_map h xs
flat_map-same f h [] same = refl
flat_map-same {X} {A} f h (x ∷ xs) same =
    ap₂ (λ (a b : List A). a ++ b) (same x) (flat_map-same f h xs same)

pub made_says-parity : (n : ℕ) → made_says (n % 2) ≡ made_says n
made_says-parity n =
    flat_map-same (said_in_phase (n % 2)) (said_in_phase n) (range_with_len 1 8)
    (λ p. flat_map-same (said_in_tick (n % 2) p) (said_in_tick n p) (range_with_len 1 4)
    (λ t. ap (map (made_say p t))
    (filter-same (is_said (n % 2) p t) (is_said n p t) (range_with_len 0 4)
    (is_said-parity n p t))))

-- so what holds of what is said for 0 and for 1 holds for each number
pub for-each : (P : List Say → Type 0) → P (made_says 0) → P (made_says 1) → (n : ℕ) →
    P (made_says n)
for-each P even odd n = subst P (made_says-parity n) (of-rest (n % 2) (omega arith))
  where
    of-rest : (r : ℕ) → r < 2 → P (made_says r)
    of-rest zero low = even
    of-rest (suc zero) low = odd
    of-rest (suc (suc r)) low = absurd (omega (arith, low))
