-- What is found in a list.
use Rattle.std.specs.Prelude.{◌≡◌, ℕ, ◌<◌, ◌⊎◌, List, [], ◌∷◌, length, slice_index_or, Option, None}
use Rattle.std.specs.Option.{option_or}

-- the first thing that f gives
abbrev pub first_some : {X Y : Type 0} → (X → Option Y) → List X → Option Y
first_some f [] = None
first_some f (x ∷ xs) = option_or (f x) (first_some f xs)

-- x is one of a list
abbrev pub IsIn : {X : Type 0} → List X → X → Type 0
IsIn [] x = ⊥
IsIn (y ∷ ys) x = (y ≡ x) ⊎ IsIn ys x

-- y is what f gives for one of a list
pub record IsFrom {X Y : Type 0} (f : X → Y) (xs : List X) (y : Y) : Type 0 where
  pub origin : X
  pub there : IsIn xs origin
  pub gives : f origin ≡ y

-- y is one of those that f gives for the one with this index
pub record IsAt {X Y : Type 0} (f : X → List Y) (xs : List X) (d : X) (y : Y) : Type 0 where
  pub index : ℕ
  pub low : index < length xs
  pub there : IsIn (f (slice_index_or xs index d)) y
