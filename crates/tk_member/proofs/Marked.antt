-- The filter of the positions that are marked has these marks and no others.
use Rattle.std.proofs.Common.{◌≡◌, refl, ap, sym, ◌∙◌, arith, ℕ, zero, suc, ◌+◌, ◌<◌, ◌≤◌, List, ◌∷◌}
use Rattle.std.proofs.Common.{length, map, filter, cond, Bool, true, false, subst}
use Rattle.std.specs.Prelude.{◌==◌, ◌||◌}
use Rattle.std.specs.List.{list_any, range_with_len}
use Rattle.tk_shape.specs.declared.shape.Shape.{Shape}
use Rattle.tk_kernel.specs.Chosen.{has_bit}
use Rattle.tk_kernel.proofs.Offers.{concat-all_pieces}
use Rattle.tk_bloom.specs.Filters.{marks_of, positions_of}
use Rattle.tk_bloom.specs.Windows.{pushes_in}
use Rattle.tk_member.specs.Epochs.{filter_of}

-- ---- the numbers that pass a test

-- and no more than there are
pub passing-few : (p : ℕ → Bool) (a n : ℕ) → length (filter p (range_with_len a n)) ≤ n
passing-few p a zero = omega arith
passing-few p a (suc n) =
    let few = passing-few p (a + 1) n in
    elim (p a) as (λ b. length (cond b (a ∷ filter p (range_with_len (a + 1) n))
    (filter p (range_with_len (a + 1) n))) ≤ suc n) [
      | true ↦ omega (arith, few)
      | false ↦ omega (arith, few)
    ]

-- ---- marks

-- whether a number is among those that pass
either-way : (p : ℕ → Bool) (h x : ℕ) (xs : List ℕ) → (h == x) ≡ false →
    list_any (λ k. h == k) (filter p (x ∷ xs)) ≡ list_any (λ k. h == k) (filter p xs)
either-way p h x xs other =
    elim (p x) as (λ b. list_any (λ k. h == k) (cond b (x ∷ filter p xs) (filter p xs))
    ≡ list_any (λ k. h == k) (filter p xs)) [
      | true ↦ ap (λ b. b || list_any (λ k. h == k) (filter p xs)) other
      | false ↦ refl
    ]

pub below-none : (p : ℕ → Bool) (a n h : ℕ) → h < a →
    list_any (λ k. h == k) (filter p (range_with_len a n)) ≡ false
below-none p a zero h low = refl
below-none p a (suc n) h low =
    either-way p h a (range_with_len (a + 1) n) (grind (arith, low))
    ∙ below-none p (a + 1) n h (omega (arith, low))

here-marked : (p : ℕ → Bool) (a n : ℕ) →
    list_any (λ k. a == k) (filter p (a ∷ range_with_len (a + 1) n)) ≡ p a
here-marked p a n =
    elim (p a) as (λ b. list_any (λ k. a == k)
    (cond b (a ∷ filter p (range_with_len (a + 1) n)) (filter p (range_with_len (a + 1) n))) ≡ b) [
      | true ↦ grind arith
      | false ↦ below-none p (a + 1) n a (omega arith)
    ]

pub among-passing : (p : ℕ → Bool) (a n h : ℕ) → a ≤ h → h < a + n →
    list_any (λ k. h == k) (filter p (range_with_len a n)) ≡ p h
among-passing p a zero h low high = absurd (omega (arith, low, high))
among-passing p a (suc n) h low high =
    elim (h == a) as (λ b. (h == a) ≡ b →
    list_any (λ k. h == k) (filter p (range_with_len a (suc n))) ≡ p h) [
      | true ↦ λ same.
          let e : h ≡ a = grind (arith, same) in
          subst (λ (k : ℕ). list_any (λ j. k == j) (filter p (range_with_len a (suc n))) ≡ p k) (sym e)
          (here-marked p a n)
      | false ↦ λ other.
          let ne : a + 1 ≤ h = grind (arith, other, low) in
          either-way p h a (range_with_len (a + 1) n) other
          ∙ among-passing p (a + 1) n h ne (omega (arith, high))
    ] refl

-- the same for all positions
map-among : (p q : ℕ → Bool) (a n : ℕ) → ((h : ℕ) → a ≤ h → h < a + n → q h ≡ p h) →
    map q (range_with_len a n) ≡ map p (range_with_len a n)
map-among p q a zero same = refl
map-among p q a (suc n) same =
    let rest : map q (range_with_len (a + 1) n) ≡ map p (range_with_len (a + 1) n) =
    map-among p q (a + 1) n (λ h low high. same h (omega (arith, low)) (omega (arith, high)))
    in
    ap (λ b. b ∷ map q (range_with_len (a + 1) n)) (same a (omega arith) (omega arith))
    ∙ ap (λ bs. p a ∷ bs) rest

pub marks-are : (shape : Shape) (marks : List ℕ) (positions : List ℕ) →
    positions ≡ filter (has_bit marks) (range_with_len 0 shape.filter_bits) →
    marks_of shape.filter_bits (positions_of (pushes_in 1 positions)) ≡ filter_of shape marks
marks-are shape marks positions is =
    let bits = shape.filter_bits in
    let whole : positions_of (pushes_in 1 positions) ≡ positions =
    concat-all_pieces 1 positions (omega arith)
    in
    ap (marks_of bits) (whole ∙ is)
    ∙ map-among (has_bit marks)
    (λ h. list_any (λ k. h == k) (filter (has_bit marks) (range_with_len 0 bits))) 0 bits
    (λ h low high. among-passing (has_bit marks) 0 bits h low high)
