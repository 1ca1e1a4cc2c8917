-- Lists, one element after the other.
use Rattle.std.proofs.Common.{◌≡◌, ap, ap₂, sym, ◌∙◌, ℕ, ◌+◌, ◌<◌, List, [], ◌∷◌, ◌++◌, length, take, map}
use Rattle.std.proofs.lemmas.List.{map-append, take_more}
use Rattle.std.specs.Prelude.{slice_index_or}

-- the first elements, with the next one
pub take_one_more : {X : Type 0} (xs : List X) (i : ℕ) (x : X) → i < length xs →
    x ≡ slice_index_or xs i x → take (i + 1) xs ≡ take i xs ++ x ∷ []
take_one_more xs i x low at = take_more xs i x low ∙ ap (λ y. take i xs ++ y ∷ []) (sym at)

-- one element more, and what it gives
pub map-next : {X Y : Type 0} (f : X → Y) (xs : List X) (i : ℕ) (x : X) (ys more : List Y) (y : Y) →
    i < length xs → x ≡ slice_index_or xs i x → ys ≡ map f (take i xs) → y ≡ f x →
    more ≡ ys ++ y ∷ [] → more ≡ map f (take (i + 1) xs)
map-next f xs i x ys more y low at so_far is pushed =
    pushed
    ∙ ap₂ (λ zs z. zs ++ z ∷ []) so_far is
    ∙ sym (map-append f (take i xs) (x ∷ []))
    ∙ ap (map f) (sym (take_one_more xs i x low at))
