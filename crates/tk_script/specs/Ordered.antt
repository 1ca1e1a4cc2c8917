-- Lists of which each item may come after the one in front of it.
use Rattle.std.specs.Prelude.{Bool, true, ◌&&◌, List, [], ◌∷◌}

abbrev pub are_ordered : {X : Type 0} → (X → X → Bool) → List X → Bool
are_ordered may [] = true
are_ordered may (a ∷ []) = true
are_ordered may (a ∷ b ∷ xs) = may a b && are_ordered may (b ∷ xs)

-- an item may come after the last of these, if there is one
abbrev pub follows : {X : Type 0} → (X → X → Bool) → List X → X → Bool
follows may [] x = true
follows may (a ∷ []) x = may a x
follows may (a ∷ b ∷ xs) x = follows may (b ∷ xs) x
