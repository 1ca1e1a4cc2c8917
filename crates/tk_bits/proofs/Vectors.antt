-- The bits of joined vectors, of zeros and of unit vectors.
use Rattle.std.proofs.Common.{◌≡◌, ◌≢◌, ℕ, zero, suc, ◌+◌, ◌*◌, ◌/◌, ◌%◌, ◌^◌, ◌<◌, true, false, eqb, List, [], ◌∷◌, length, replicate, get_or, set, bit_xor, refl, ap, ap₂, sym, ◌∙◌, arith, inl, inr}
use Rattle.std.proofs.Math.Bool.{xor}
use Rattle.std.specs.Int.{bit_at}
use Rattle.std.specs.Int.Bits.{xor_comm, xor_zero_l}
use Rattle.std.proofs.lemmas.Nat.Bits.{bit_at_xor, bit_at-lt, bit_at-zero, bit_at-pow_same, bit_at-pow_other}
use Rattle.std.proofs.lemmas.Bool.{cases_eq}
use Rattle.std.proofs.lemmas.Grind.{get_or-set_at}
use Rattle.std.proofs.lemmas.List.{get_or-set_other, get_or-set_same, length-set}
use Rattle.tk_kernel.specs.Xor.{xor_bytes}
use Rattle.tk_kernel.specs.Chosen.{has_bit}
use Rattle.tk_kernel.proofs.Offers.{length-zeros, zeros-xor_bytes}
use Rattle.tk_bits.specs.Shares.{unit_vector}

get_or-xor_bytes : (xs ys : List ℕ) (k : ℕ) → length xs ≡ length ys → get_or (xor_bytes xs ys) k 0 ≡ bit_xor (get_or xs k 0) (get_or ys k 0)
get_or-xor_bytes [] [] k e = refl
get_or-xor_bytes [] (y ∷ ys) k e = absurd (omega arith)
get_or-xor_bytes (x ∷ xs) [] k e = absurd (omega arith)
get_or-xor_bytes (x ∷ xs) (y ∷ ys) zero e = refl
get_or-xor_bytes (x ∷ xs) (y ∷ ys) (suc k) e = get_or-xor_bytes xs ys k (omega arith)

sum_of_bits : (m n : ℕ) → m < 2 → n < 2 → eqb ((m + n) % 2) 1 ≡ xor (eqb m 1) (eqb n 1)
unfolding xor
sum_of_bits zero zero h k = refl
sum_of_bits zero (suc zero) h k = refl
sum_of_bits (suc zero) zero h k = refl
sum_of_bits (suc zero) (suc zero) h k = refl
sum_of_bits zero (suc (suc n)) h k = absurd (omega arith)
sum_of_bits (suc zero) (suc (suc n)) h k = absurd (omega arith)
sum_of_bits (suc (suc m)) n h k = absurd (omega arith)

pub has_bit-xor_bytes : (v w : List ℕ) (i : ℕ) → length v ≡ length w → has_bit (xor_bytes v w) i ≡ xor (has_bit v i) (has_bit w i)
has_bit-xor_bytes v w i e =
    let a = get_or v (i / 8) 0 in
    let b = get_or w (i / 8) 0 in
    ap (λ n. eqb (bit_at n (i % 8)) 1) (get_or-xor_bytes v w (i / 8) e)
    ∙ ap (λ n. eqb n 1) (bit_at_xor a b (i % 8))
    ∙ sum_of_bits (bit_at a (i % 8)) (bit_at b (i % 8)) (bit_at-lt a (i % 8)) (bit_at-lt b (i % 8))

get_or-zeros : (size k : ℕ) → get_or (replicate {A = ℕ} size 0) k 0 ≡ 0
get_or-zeros zero k = refl
get_or-zeros (suc size) zero = refl
get_or-zeros (suc size) (suc k) = get_or-zeros size k

pub has_bit-zeros : (size i : ℕ) → has_bit (replicate size 0) i ≡ false
has_bit-zeros size i =
    ap (λ n. eqb (bit_at n (i % 8)) 1) (get_or-zeros size (i / 8)) ∙ ap (λ n. eqb n 1) (bit_at-zero (i % 8))

pub length-unit_vector : (size i : ℕ) → length (unit_vector size i) ≡ size
length-unit_vector size i = length-set (replicate size 0) (i / 8) (2 ^ (i % 8)) ∙ length-zeros size

pub has_bit-unit_same : (size i : ℕ) → i < 8 * size → has_bit (unit_vector size i) i ≡ true
has_bit-unit_same size i h =
    let within : i / 8 < length (replicate {A = ℕ} size 0) = omega (arith, length-zeros size) in
    ap (λ n. eqb (bit_at n (i % 8)) 1) (get_or-set_same (replicate size 0) (i / 8) (2 ^ (i % 8)) 0 within)
    ∙ ap (λ n. eqb n 1) (bit_at-pow_same (i % 8))

pub has_bit-unit_other : (size i j : ℕ) → i < 8 * size → j ≢ i → has_bit (unit_vector size i) j ≡ false
has_bit-unit_other size i j h ne =
    let zeros = replicate {A = ℕ} size 0 in
    let within : i / 8 < length zeros = omega (arith, length-zeros size) in
    elim (cases_eq (j / 8) (i / 8)) [
      | inl same ↦
          let apart : j % 8 ≢ i % 8 = omega arith in
          ap (λ n. eqb (bit_at n (j % 8)) 1) (get_or-set_at zeros (i / 8) (j / 8) (2 ^ (i % 8)) 0 same within)
          ∙ ap (λ n. eqb n 1) (bit_at-pow_other (i % 8) (j % 8) apart)
      | inr apart ↦
          ap (λ n. eqb (bit_at n (j % 8)) 1) (get_or-set_other zeros (i / 8) (j / 8) (2 ^ (i % 8)) 0 apart)
          ∙ has_bit-zeros size j
    ]

-- one byte more, added to byte k
byte_added : (xs : List ℕ) (k n : ℕ) → set xs k (bit_xor (get_or xs k 0) n) ≡ xor_bytes (set (replicate (length xs) 0) k n) xs
byte_added [] k n = refl
byte_added (x ∷ xs) zero n = ap₂ (λ y ys. y ∷ ys) (xor_comm x n) (sym (zeros-xor_bytes (length xs) xs refl))
byte_added (x ∷ xs) (suc k) n = ap₂ (λ y ys. y ∷ ys) (sym (xor_zero_l x)) (byte_added xs k n)

-- bit i of a vector turned over
pub unit_added : (size i : ℕ) (xs : List ℕ) → length xs ≡ size →
    set xs (i / 8) (bit_xor (get_or xs (i / 8) 0) (2 ^ (i % 8))) ≡ xor_bytes (unit_vector size i) xs
unit_added size i xs e =
    byte_added xs (i / 8) (2 ^ (i % 8)) ∙ ap (λ n. xor_bytes (unit_vector n i) xs) e
