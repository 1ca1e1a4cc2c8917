-- Numbers of four bytes, one after the other.
use Rattle.std.proofs.Common.{◌≡◌, ℕ, suc, ◌-◌, ◌+◌, ◌<◌, ◌≤◌, List, [], ◌∷◌, ◌++◌, drop, refl, sym, ap, ◌∙◌, append_assoc, arith}
use Rattle.std.proofs.lemmas.List.{append-nil}
use Rattle.tk_frames.specs.Fields.{number_at, numbers}

-- the numbers that were read, with one more and without the rest of it
pub goes_on : (front more : List ℕ) (count i n : ℕ) (bytes rest total : List ℕ) → i < count → n ≡ number_at 0 bytes → more ≡ front ++ n ∷ [] →
    rest ≡ drop 4 bytes → front ++ numbers (count - i) bytes ≡ total → more ++ numbers (count - (i + 1)) rest ≡ total
unfolding numbers
goes_on front more count i n bytes rest total lt read pushed at_rest so_far =
    let k : count - i ≡ suc (count - (i + 1)) = omega arith in
    let left = numbers (count - (i + 1)) rest in
    let next : numbers (count - i) bytes ≡ n ∷ left = rw (k, read, at_rest) refl in
    ap (λ xs. xs ++ left) pushed ∙ append_assoc front (n ∷ []) left ∙ ap (λ xs. front ++ xs) (sym next) ∙ so_far

pub is_done : (front : List ℕ) (count i : ℕ) (bytes total : List ℕ) → count ≤ i → front ++ numbers (count - i) bytes ≡ total → front ≡ total
unfolding numbers
is_done front count i bytes total le so_far =
    let k : count - i ≡ 0 = omega arith in
    sym (append-nil front) ∙ ap (λ n. front ++ numbers n bytes) (sym k) ∙ so_far
