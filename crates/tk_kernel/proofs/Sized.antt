-- Lists of which each has the same length.
use Rattle.std.proofs.Common.{◌≡◌, ℕ, zero, suc, ◌*◌, List, [], ◌∷◌, ◌++◌, map, length, set, ◌∙◌, arith, length-append}
use Rattle.std.specs.List.{concat}
use Rattle.tk_kernel.specs.Pieces.{AllSized}

pub AllSized-set : (size : ℕ) (vs : List (List ℕ)) (i : ℕ) (v : List ℕ) → AllSized size vs → length v ≡ size → AllSized size (set vs i v)
AllSized-set size [] i v h e = tt
AllSized-set size (x ∷ xs) zero v h e = (e, h.1)
AllSized-set size (x ∷ xs) (suc i) v h e = (h.0, AllSized-set size xs i v h.1 e)

pub AllSized-append : (size : ℕ) (vs ws : List (List ℕ)) → AllSized size vs → AllSized size ws → AllSized size (vs ++ ws)
AllSized-append size [] ws h k = k
AllSized-append size (v ∷ vs) ws h k = (h.0, AllSized-append size vs ws h.1 k)

pub length-concat : (width : ℕ) (vs : List (List ℕ)) → AllSized width vs → length (concat vs) ≡ length vs * width
length-concat width [] h = omega arith
length-concat width (v ∷ vs) h = length-append v (concat vs) ∙ omega (arith, h.0, length-concat width vs h.1)

pub AllSized-map : (f : List ℕ → List ℕ) (a b : ℕ) (vs : List (List ℕ)) →
    ((v : List ℕ) → length v ≡ a → length (f v) ≡ b) → AllSized a vs → AllSized b (map f vs)
AllSized-map f a b [] becomes h = tt
AllSized-map f a b (v ∷ vs) becomes h = (becomes v h.0, AllSized-map f a b vs becomes h.1)
