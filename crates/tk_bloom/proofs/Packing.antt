-- Marks are those that their numbers have.
use Rattle.std.proofs.Common.{◌≡◌, ◌∙◌, refl, sym, ap, subst, arith, get_or, inl, inr}
use Rattle.std.proofs.Common.{ℕ, zero, suc, zero-add, ◌+◌, ◌-◌, ◌*◌, ◌/◌, ◌%◌, ◌<◌, ◌≤◌, ◌^◌, ◌==◌, bit_and, Bool, true, false, cond}
use mir.Val.{bool_byte}
use Rattle.std.proofs.Common.{List, [], ◌∷◌, length, map, take, drop, length-drop, nat_lt}
use Rattle.std.proofs.Math.Nat.{div-one}
use Rattle.std.proofs.lemmas.Bool.{cases_lt, eq-eqb, ne_eqb}
use Rattle.std.proofs.lemmas.Nat.Bits.{bit_at-suc, bit_at-zero, shr_and_one}
use Rattle.std.proofs.lemmas.List.{get_or-take, get_or-drop, get_or_past, length-map, take_all, drop_all, drop_more}
use Rattle.std.proofs.lemmas.List.{take-map, drop-map}
use Rattle.std.proofs.lemmas.List.FromFn.{fill_by_all, get_or-map-range_with_len, length-map-range_with_len}
use Rattle.tk_bloom.specs.Packing.{number_of, digit, mark_at, marks_in, ArePacked}

-- ---- the digits of a number

lowest : (b : Bool) (n : ℕ) → ((cond b 1 0 + 2 * n) % 2 == 1) ≡ b
lowest true n = eq-eqb ((1 + 2 * n) % 2) 1 (omega arith)
lowest false n =
    ap (λ k. k % 2 == 1) (zero-add (2 * n)) ∙ ne_eqb (2 * n % 2) 1 (λ is. omega (arith, is))

halved : (b : Bool) (n : ℕ) → (cond b 1 0 + 2 * n) / 2 ≡ n
halved true n = omega arith
halved false n = omega arith

digit-halved : (n i : ℕ) → digit n (suc i) ≡ digit (n / 2) i
digit-halved n i = ap (λ k. k == 1) (bit_at-suc n i)

digit-zero : (i : ℕ) → digit 0 i ≡ false
digit-zero i = ap (λ k. k == 1) (bit_at-zero i)

-- the digits of a number that marks make are the marks
digit-number : (marks : List Bool) (i : ℕ) → digit (number_of marks) i ≡ get_or marks i false
digit-number [] i = digit-zero i
digit-number (b ∷ bs) zero =
    ap (λ k. k % 2 == 1) (div-one (cond b 1 0 + 2 * number_of bs)) ∙ lowest b (number_of bs)
digit-number (b ∷ bs) (suc i) =
    digit-halved (cond b 1 0 + 2 * number_of bs) i
    ∙ ap (λ n. digit n i) (halved b (number_of bs)) ∙ digit-number bs i

-- ---- the marks of several numbers

mark-packed : (ns : List ℕ) (marks : List Bool) (i : ℕ) → ArePacked ns marks →
    mark_at ns i ≡ get_or marks i false
mark-packed [] marks i are = digit-zero (i % 64) ∙ ap (λ ms. get_or ms i false) (sym are)
mark-packed (n ∷ ns) marks i are = elim (cases_lt i 64) [
  | inl low ↦
      let first : i / 64 ≡ 0 = omega (arith, low) in
      let place : i % 64 ≡ i = omega (arith, low) in
      ap (λ k. digit (get_or (n ∷ ns) k 0) (i % 64)) first ∙ ap (digit n) place
      ∙ ap (λ m. digit m i) are.0 ∙ digit-number (take 64 marks) i ∙ get_or-take 64 marks i false low
  | inr high ↦
      let later : i / 64 ≡ suc ((i - 64) / 64) = omega (arith, high) in
      let place : i % 64 ≡ (i - 64) % 64 = omega (arith, high) in
      ap (λ k. digit (get_or (n ∷ ns) k 0) (i % 64)) later
      ∙ ap (digit (get_or ns ((i - 64) / 64) 0)) place
      ∙ mark-packed ns (drop 64 marks) (i - 64) are.1
      ∙ get_or-drop 64 marks (i - 64) false
      ∙ ap (λ k. get_or marks k false) (omega (arith, high))
]

pub marks-packed : (ns : List ℕ) (marks : List Bool) → ArePacked ns marks → marks_in (length marks) ns ≡ marks
marks-packed ns marks are =
    sym (fill_by_all (mark_at ns) marks (length marks) false refl
    (λ i within. sym (mark-packed ns marks i are)))

digit-more : (b : Bool) (n : ℕ) → 2 * n + bool_byte b ≡ cond b 1 0 + 2 * n
digit-more true n = omega arith
digit-more false n = omega arith

digit-below : (b : Bool) (n i : ℕ) → n < 2 ^ i → 2 * n + bool_byte b < 2 ^ (suc i)
digit-below true n i below = omega (arith, below)
digit-below false n i below = omega (arith, below)

-- there is a mark where the digit of its number says so
pub digit-mark : (count i : ℕ) (ns : List ℕ) → i < count →
    (bit_and (get_or ns (i / 64) 0 / 2 ^ (i % 64)) 1 == 1) ≡ get_or (marks_in count ns) i false
digit-mark count i ns within =
    ap (λ k. k == 1) (shr_and_one (get_or ns (i / 64) 0) (i % 64))
    ∙ sym (get_or-map-range_with_len (mark_at ns) 0 count i i false within (omega arith))

pub no-mark : (count i : ℕ) (ns : List ℕ) → count ≤ i → get_or (marks_in count ns) i false ≡ false
no-mark count i ns past =
    let long = length-map-range_with_len (mark_at ns) 0 count in
    get_or_past (marks_in count ns) i false (omega (arith, long, past))

-- numbers have room for the marks that they have
pub packed-room : (ns : List ℕ) (marks : List Bool) → ArePacked ns marks → length marks ≤ 64 * length ns
packed-room [] marks are = omega (arith, ap length are)
packed-room (n ∷ ns) marks are =
    omega (arith, length-drop 64 marks, packed-room ns (drop 64 marks) are.1)

-- ---- counts that are tested

-- whether a count isn't 0
abbrev pub some : ℕ → Bool
some n = nat_lt 0 n

-- one count more is one digit more
pub number-more : (counts : List ℕ) (left n : ℕ) → 0 < left → left ≤ length counts →
    n ≡ number_of (map some (drop left counts)) → n < 2 ^ (length counts - left) →
    let more = 2 * n + bool_byte (some (get_or counts (left - 1) 0)) in
    (more ≡ number_of (map some (drop (left - 1) counts))) × (more < 2 ^ (length counts - (left - 1)))
number-more counts left n more within is below =
    let at = left - 1 in
    let one : drop at counts ≡ get_or counts at 0 ∷ drop left counts =
    drop_more counts at 0 (omega (arith, more, within))
    ∙ ap (λ k. get_or counts at 0 ∷ drop k counts) (omega (arith, more))
    in
    let long : length counts - at ≡ suc (length counts - left) = omega (arith, more, within) in
    let is_some = some (get_or counts at 0) in (
      digit-more is_some n ∙ ap (λ m. cond is_some 1 0 + 2 * m) is
          ∙ ap (λ cs. number_of (map some cs)) (sym one),
      subst (λ k. 2 * n + bool_byte is_some < 2 ^ k) (sym long)
          (digit-below is_some n (length counts - left) below),
    )

-- the numbers of the first counts, the next 64 and those behind them
pub packed-more : (front behind counts : List ℕ) (n : ℕ) (ns : List ℕ) → front ≡ take 64 counts →
    behind ≡ drop 64 counts → n ≡ number_of (map some front) → ArePacked ns (map some behind) →
    ArePacked (n ∷ ns) (map some counts)
packed-more front behind counts n ns is_front is_behind is are = (
  is ∙ ap (λ cs. number_of (map some cs)) is_front ∙ ap number_of (sym (take-map some 64 counts)),
  subst (ArePacked ns) (ap (map some) is_behind ∙ sym (drop-map some 64 counts)) are,
)

-- the last number has what is left
pub packed-last : (rest : List ℕ) (n : ℕ) → length rest ≤ 64 → n ≡ number_of (map some rest) →
    ArePacked (n ∷ []) (map some rest)
packed-last rest n few is =
    let few_marks : length (map some rest) ≤ 64 = omega (arith, few, length-map rest some) in (
      is ∙ ap number_of (sym (take_all 64 (map some rest) few_marks)),
      drop_all 64 (map some rest) few_marks,
    )
