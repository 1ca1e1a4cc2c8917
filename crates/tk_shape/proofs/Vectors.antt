-- A vector has a bit for each bucket.
use Rattle.std.proofs.Common.{◌≡◌, ◌≢◌, ℕ, ◌+◌, ◌*◌, ◌/◌, ◌%◌, ◌^◌, ◌≤◌, IsTrue, ap, sym, ◌∙◌, arith}
use Rattle.std.specs.Int.{is_power_of_two}
use Rattle.std.specs.Int.Count.{ones}
use Rattle.std.proofs.lemmas.Bool.{eqb-true}
use Rattle.std.proofs.lemmas.Nat.{div-add-mod', ones_cat, zero_from_ones}
use Rattle.tk_shape.specs.declared.shape.Shape.{Shape}
use Rattle.tk_shape.specs.Lengths.{vector_len}

-- a power of two from 8 on is a number of whole bytes
whole_bytes : (n : ℕ) → IsTrue (is_power_of_two n) → 8 ≤ n → n ≡ 8 * (n / 8)
whole_bytes n one low =
    let split : n / 8 * 2 ^ 3 + n % 8 ≡ n = omega (arith, div-add-mod' n 8) in
    let counted : ones (n / 8) + ones (n % 8) ≡ 1 =
    sym (ones_cat 3 (n / 8) (n % 8) (omega arith)) ∙ ap ones split ∙ eqb-true (ones n) 1 one in
    let high : ones (n / 8) ≢ 0 =
    λ e. let none = zero_from_ones (n / 8) e in omega (arith, none, low)
    in
    let none : ones (n % 8) ≡ 0 = omega (arith, counted, high) in
    let no_rest = zero_from_ones (n % 8) none in
    omega (arith, no_rest)

pub vector_bits : (shape : Shape) → shape.buckets ≡ 8 * vector_len shape
vector_bits shape =
    whole_bytes shape.buckets shape.in_range.buckets_power shape.in_range.buckets_low
