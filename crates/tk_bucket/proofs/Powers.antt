-- Powers of two.
use Rattle.std.proofs.Common.{◌≡◌, ℕ, zero, suc, ◌+◌, ◌-◌, ◌*◌, ◌/◌, ◌%◌, ◌^◌, ◌<◌, ◌≤◌, IsTrue}
use Rattle.std.proofs.Common.{refl, sym, ap, ◌∙◌, arith, inl, inr, lit<}
use Rattle.std.specs.Int.{IsPowerOfTwo, is_power_of_two}
use Rattle.std.specs.Int.Count.{ones, ones_step}
use Rattle.std.proofs.Math.Nat.{pow-suc, pow-le-pow_right, div-eq_of_eq-mul_left}
use Rattle.std.proofs.lemmas.Bool.{cases_lt, eqb-true, eq-eqb}
use Rattle.std.proofs.lemmas.Nat.{ones_cat, zero_from_ones, pow-add, pow_pos}

pub doubled : (k per : ℕ) → per ≡ 2 ^ k → per * 2 ≡ 2 ^ (k + 1)
doubled k per e =
    let more : k + 1 ≡ suc k = omega arith in
    ap (λ n. n * 2) e ∙ sym (ap (λ n. 2 ^ n) more ∙ pow-suc 2 k)

-- a power of two that is at most another has at most its exponent
pub exponent_most : (j k : ℕ) → 2 ^ j ≤ 2 ^ k → j ≤ k
exponent_most j k le =
    elim (cases_lt k j) [
      | inr most ↦ most
      | inl more ↦
          let next : suc k ≤ j = omega (arith, more) in
          let above : 2 ^ suc k ≤ 2 ^ j = pow-le-pow_right (lit< tt) next in
          absurd (omega (arith, above, pow_pos k, le, pow-suc 2 k))
    ]

no_ones : ones 0 ≡ 0
unfolding ones
no_ones = refl

found_in : (fuel n : ℕ) → n ≤ fuel → ones n ≡ 1 → IsPowerOfTwo n
found_in zero n small one =
    let none : n ≡ 0 = omega (arith, small) in
    absurd (omega (arith, sym one ∙ ap ones none, no_ones))
found_in (suc fuel) n small one =
    let step : n % 2 + ones (n / 2) ≡ 1 = sym (ones_step n) ∙ one in
    elim (cases_lt (n % 2) 1) [
      | inl even ↦
          let half = found_in fuel (n / 2) (omega (arith, small)) (omega (arith, step, even)) in
          let whole : n ≡ n / 2 * 2 = omega (arith, even) in
          (half.0 + 1, whole ∙ doubled half.0 (n / 2) half.1)
      | inr odd ↦
          let none : n / 2 ≡ 0 = zero_from_ones (n / 2) (omega (arith, step, odd)) in
          (0, omega (arith, none, step, odd))
    ]

-- a number of which one bit is set is a power of two
pub power_found : (n : ℕ) → IsTrue (is_power_of_two n) → IsPowerOfTwo n
power_found n one = found_in n n (omega arith) (eqb-true (ones n) 1 one)

ones-power : (k : ℕ) → ones (2 ^ k) ≡ 1
unfolding ones
ones-power zero = refl
ones-power (suc k) =
    let twice : 2 ^ suc k ≡ 2 ^ k * 2 ^ 1 + 0 = omega (arith, pow-suc 2 k) in
    ap ones twice ∙ ones_cat 1 (2 ^ k) 0 (lit< tt) ∙ omega (arith, ones-power k, no_ones)

-- a power of two has one bit set
pub one_bit : (n k : ℕ) → n ≡ 2 ^ k → IsTrue (is_power_of_two n)
one_bit n k e = eq-eqb (ones n) 1 (ap ones e ∙ ones-power k)

-- the greater of two powers of two is so many times the less
pub parts_whole : (n m : ℕ) → IsPowerOfTwo n → IsPowerOfTwo m → m ≤ n → n / m * m ≡ n
parts_whole n m (j, is_n) (k, is_m) le =
    let most : k ≤ j = exponent_most k j (omega (arith, le, is_n, is_m)) in
    let split : j - k + k ≡ j = omega (arith, most) in
    let parts : n ≡ 2 ^ (j - k) * m =
    is_n ∙ ap (λ i. 2 ^ i) (sym split) ∙ pow-add 2 (j - k) k ∙ ap (λ i. 2 ^ (j - k) * i) (sym is_m) in
    let some : 0 < m = omega (arith, pow_pos k, is_m) in
    let count : n / m ≡ 2 ^ (j - k) = div-eq_of_eq-mul_left some parts in
    ap (λ i. i * m) count ∙ sym parts
