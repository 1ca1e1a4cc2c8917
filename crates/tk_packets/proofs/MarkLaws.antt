-- Marks that are read out of their bytes.
use Rattle.std.proofs.Common.{◌≡◌, ◌≢◌, ℕ, zero, suc, ◌+◌, ◌*◌, ◌/◌, ◌%◌, ◌^◌, ◌<◌, ◌≤◌, Bool, true, false, IsTrue}
use Rattle.std.proofs.Common.{refl, ap, sym, ◌∙◌, arith, cond, List, length, map}
use Rattle.std.specs.Prelude.{◌==◌, slice_index_or}
use Rattle.std.specs.List.{range_with_len}
use Rattle.std.specs.Int.{is_power_of_two}
use Rattle.std.specs.Int.Count.{ones}
use Rattle.std.proofs.Math.Nat.{div-div-eq-div-mul, mod-lt, div-add-mod, pow-succ'}
use Rattle.std.proofs.lemmas.Bool.{eqb-true}
use Rattle.std.proofs.lemmas.Nat.{div-add-mod', ones_cat, zero_from_ones}
use Rattle.std.proofs.lemmas.List.{ext_get_or}
use Rattle.std.proofs.lemmas.List.FromFn.{get_or-map-range_with_len, length-map-range_with_len}
use Rattle.tk_shape.specs.declared.shape.Shape.{Shape}
use Rattle.tk_kernel.specs.Chosen.{has_bit}
use Rattle.tk_packets.specs.Frames.{marks_len}
use Rattle.tk_packets.specs.Marks.{mark_at, bits_from, mark_byte, mark_bytes}

-- ---- whole bytes

-- a power of two from 8 on is a number of whole bytes
whole_bytes : (n : ℕ) → IsTrue (is_power_of_two n) → 8 ≤ n → n ≡ 8 * (n / 8)
whole_bytes n one low =
    let split : n / 8 * 2 ^ 3 + n % 8 ≡ n = omega (arith, div-add-mod' n 8) in
    let counted : ones (n / 8) + ones (n % 8) ≡ 1 =
    sym (ones_cat 3 (n / 8) (n % 8) (omega arith)) ∙ ap ones split ∙ eqb-true (ones n) 1 one in
    let high : ones (n / 8) ≢ 0 =
    λ e. let none = zero_from_ones (n / 8) e in omega (arith, none, low)
    in
    let none : ones (n % 8) ≡ 0 = omega (arith, counted, high) in
    let no_rest = zero_from_ones (n % 8) none in
    omega (arith, no_rest)

pub marks-whole : (shape : Shape) → 8 * marks_len shape ≡ shape.filter_bits
marks-whole shape =
    let low : 8 ≤ shape.filter_bits = omega (arith, shape.in_range.filter_low) in
    sym (whole_bytes shape.filter_bits shape.in_range.filter_power low)

-- ---- one mark

mark-low : (marks : List Bool) (p : ℕ) → mark_at marks p ≤ 1
mark-low marks p = low (slice_index_or marks p false)
  where
    low : (b : Bool) → cond b 1 0 ≤ 1
    low true = omega arith
    low false = omega arith

mark-is : (marks : List Bool) (p : ℕ) → (mark_at marks p == 1) ≡ slice_index_or marks p false
mark-is marks p = is (slice_index_or marks p false)
  where
    is : (b : Bool) → (cond b 1 0 == 1) ≡ b
    is true = refl
    is false = refl

-- bit j of the marks from p on
bit-of : (count j p q : ℕ) (marks : List Bool) → j < count → q ≡ p + j →
    bits_from count marks p / 2 ^ j % 2 ≡ mark_at marks q
unfolding bits_from
bit-of zero j p q marks low at = absurd (omega (arith, low))
bit-of (suc count) zero p q marks low at =
    let first : mark_at marks p ≡ mark_at marks q = ap (mark_at marks) (omega (arith, at)) in
    let few = mark-low marks p in
    omega (arith, first, few)
bit-of (suc count) (suc j) p q marks low at =
    let rest = bits_from count marks (p + 1) in
    let few = mark-low marks p in
    let half : (mark_at marks p + 2 * rest) / 2 ≡ rest = omega (arith, few) in
    ap (λ n. (mark_at marks p + 2 * rest) / n % 2) (pow-succ' 2 j)
    ∙ ap (λ n. n % 2) (sym (div-div-eq-div-mul (mark_at marks p + 2 * rest) 2 (2 ^ j)))
    ∙ ap (λ n. n / 2 ^ j % 2) half
    ∙ bit-of count j (p + 1) q marks (omega (arith, low)) (omega (arith, at))

-- ---- all of them

bit-is : (count p : ℕ) (marks : List Bool) → p < 8 * count →
    has_bit (mark_bytes count marks) p ≡ slice_index_or marks p false
unfolding mark_bytes
bit-is count p marks low =
    let rest : p % 8 < 8 = mod-lt p {m = 8} (omega arith) in
    let split = div-add-mod p 8 in
    let inside : p / 8 < count = omega (arith, split, low) in
    ap (λ b. b / 2 ^ (p % 8) % 2 == 1)
    (get_or-map-range_with_len (mark_byte marks) 0 count (p / 8) (p / 8) 0 inside (omega arith))
    ∙ ap (λ n. n == 1) (bit-of 8 (p % 8) (8 * (p / 8)) p marks rest (sym split))
    ∙ mark-is marks p

pub marks-read_again : (count bits : ℕ) (marks : List Bool) → 8 * count ≡ bits → length marks ≡ bits →
    map (has_bit (mark_bytes count marks)) (range_with_len 0 bits) ≡ marks
marks-read_again count bits marks whole counted =
    let bit = has_bit (mark_bytes count marks) in
    let many = length-map-range_with_len bit 0 bits in
    ext_get_or false (map bit (range_with_len 0 bits)) marks (many ∙ sym counted)
    (λ i low.
    let inside : i < bits = omega (arith, low, many) in
    get_or-map-range_with_len bit 0 bits i i false inside (omega arith)
    ∙ bit-is count i marks (omega (arith, inside, whole)))

pub read_again : (shape : Shape) (marks : List Bool) → length marks ≡ shape.filter_bits →
    map (has_bit (mark_bytes (marks_len shape) marks)) (range_with_len 0 shape.filter_bits) ≡ marks
read_again shape marks = marks-read_again (marks_len shape) shape.filter_bits marks (marks-whole shape)
