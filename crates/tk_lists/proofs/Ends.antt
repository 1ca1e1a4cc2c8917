-- A list with one more element: those before it, and the last one.
use Rattle.std.proofs.Common.{◌≡◌, ℕ, zero, suc, ◌+◌, ◌<◌, List, [], ◌∷◌, ◌++◌, length, Some, slice_get, refl, ap, ◌∙◌, arith, length-append}
use Rattle.std.specs.Prelude.{slice_index_or}

pub front-at : {A : Type 0} (xs : List A) (y d : A) (k : ℕ) → k < length xs →
    slice_index_or (xs ++ y ∷ []) k d ≡ slice_index_or xs k d
front-at [] y d k lt = absurd (omega (arith, lt))
front-at (x ∷ xs) y d zero lt = refl
front-at (x ∷ xs) y d (suc k) lt = front-at xs y d k (omega (arith, lt))

pub last-at : {A : Type 0} (xs : List A) (y d : A) → slice_index_or (xs ++ y ∷ []) (length xs) d ≡ y
last-at [] y d = refl
last-at (x ∷ xs) y d = last-at xs y d

pub last-got : {A : Type 0} (xs : List A) (y : A) → slice_get (xs ++ y ∷ []) (length xs) ≡ Some y
last-got [] y = refl
last-got (x ∷ xs) y = last-got xs y

pub length-next : {A : Type 0} (xs more : List A) (x : A) (n : ℕ) → more ≡ xs ++ x ∷ [] → length xs ≡ n →
    length more ≡ n + 1
length-next xs more x n pushed counted =
    ap length pushed ∙ length-append xs (x ∷ []) ∙ omega (arith, counted)
