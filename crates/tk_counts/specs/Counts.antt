-- All lists of a length of numbers below a bound, and counts over them.
use Rattle.std.specs.Prelude.{◌≡◌, ℕ, zero, suc, ◌<◌, Bool, List, [], ◌∷◌, length, map, flat_map, count_by, All}
use Rattle.std.specs.List.{range_with_len}

-- each of these lists with each number below a bound in front of it
abbrev pub with_fronts : ℕ → List (List ℕ) → List (List ℕ)
with_fronts bound lists =
    flat_map (λ front. map (λ rest. front ∷ rest) lists) (range_with_len 0 bound)

-- all lists of n numbers below a bound: with 256 for it, all lists of n bytes
unfoldable pub all_lists : ℕ → ℕ → List (List ℕ)
all_lists bound zero = [] ∷ []
all_lists bound (suc n) = with_fronts bound (all_lists bound n)

-- a list of n numbers below a bound
pub record IsListBelow (bound n : ℕ) (xs : List ℕ) : Type 0 where
  pub counted : length xs ≡ n
  pub below : All (λ x. x < bound) xs

-- on how many of them a test passes
abbrev pub count_lists : ℕ → ℕ → (List ℕ → Bool) → ℕ
count_lists bound n test = count_by test (all_lists bound n)

-- a change of them, which another one undoes
pub record IsUndoneBy (bound n : ℕ) (f g : List ℕ → List ℕ) : Type 0 where
  pub stays : (xs : List ℕ) → IsListBelow bound n xs → IsListBelow bound n (f xs)
  pub back : (xs : List ℕ) → IsListBelow bound n xs → g (f xs) ≡ xs
