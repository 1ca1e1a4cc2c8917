-- The byte-wise sum of lists of unlike lengths.
use Rattle.std.proofs.Common.{◌≡◌, ℕ, List, [], ◌∷◌, ◌++◌, length, refl, ap, arith, bit_xor}
use Rattle.tk_kernel.specs.Xor.{xor_bytes}

-- what stands after the first list's length doesn't count
pub xor_bytes-front : (xs ys rest : List ℕ) → length ys ≡ length xs → xor_bytes xs (ys ++ rest) ≡ xor_bytes xs ys
xor_bytes-front [] [] rest e = refl
xor_bytes-front [] (y ∷ ys) rest e = refl
xor_bytes-front (x ∷ xs) [] rest e = absurd (omega arith)
xor_bytes-front (x ∷ xs) (y ∷ ys) rest e = ap (λ zs. bit_xor x y ∷ zs) (xor_bytes-front xs ys rest (omega arith))
