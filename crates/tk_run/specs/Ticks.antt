-- What holds of lists, place by place.
use Rattle.std.specs.Prelude.{List, [], ◌∷◌}

-- of each of them
abbrev pub AllBy : {X : Type 0} → (X → Type 0) → List X → Type 0
AllBy P [] = Unit {0}
AllBy P (x ∷ xs) = P x × AllBy P xs

-- between four, of those who act and of their desks, each before and after
abbrev pub Done :
    {X D : Type 0} → (X → D → D → X → Type 0) → List X → List D → List D → List X → Type 0
Done R [] [] [] [] = Unit {0}
Done R (x ∷ xs) (d ∷ ds) (e ∷ es) (y ∷ ys) = R x d e y × Done R xs ds es ys
Done R _ _ _ _ = ⊥
