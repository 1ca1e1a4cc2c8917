-- Plain decimal: what digits spell, and what no number's decimal has.
use Rattle.std.proofs.Common.{◌≡◌, ℕ, zero, suc, ◌+◌, ◌-◌, ◌*◌, ◌^◌, ◌<◌, ◌≤◌, List, length, take, get_or, ap, sym, subst, ◌∙◌, arith, decimal}
use Rattle.std.specs.Str.Parse.{digits_value}
use Rattle.std.specs.Int.{IsInRange}
use Rattle.std.proofs.lemmas.Fmt.{decimal_nonempty, first_decimal, decimal_digit, digits_decimal, digits_value-decimal, decimal-digits_value}
use Rattle.std.proofs.lemmas.Str.Parse.{IsNumeralModel, numerals_by_value, tells_by_index, digits_value-take-le}
use Rattle.std.proofs.lemmas.Str.{digit_value_digit}
use Rattle.std.proofs.lemmas.Int.Digits.{digits_value_more}

-- each byte is a digit
abbrev pub AreDigits : List ℕ → Type 0
AreDigits ds = (i : ℕ) → i < length ds → IsInRange 48 57 (get_or ds i 0)

own : IsNumeralModel AreDigits (digits_value 10)
own = numerals_by_value AreDigits tells_by_index

pub not_empty : (text : List ℕ) (n : ℕ) → n < 2 ^ 64 → text ≡ decimal n → length text ≡ 0 → ⊥
not_empty text n small e empty = omega (arith, decimal_nonempty n small, ap length e, empty)

pub no_leading_zero : (text : List ℕ) (n : ℕ) → n < 2 ^ 64 → text ≡ decimal n →
    get_or text 0 0 ≡ 48 → 1 < length text → ⊥
no_leading_zero text zero small e first long =
    omega (arith, ap length (e ∙ decimal_digit 0 (omega arith)), long)
no_leading_zero text (suc n) small e first long =
    omega (arith, first_decimal (suc n) (omega arith) small, ap (λ ds. get_or ds 0 0) e, first)

pub all_digits : (text : List ℕ) (n : ℕ) → n < 2 ^ 64 → text ≡ decimal n → AreDigits text
all_digits text n small e = subst AreDigits (sym e) (digits_decimal own n small)

pub digits_value-spelled : (text : List ℕ) (n : ℕ) → n < 2 ^ 64 → text ≡ decimal n →
    digits_value 10 text ≡ n
digits_value-spelled text n small e = ap (digits_value 10) e ∙ digits_value-decimal own n small

-- the first digits are worth no more than all
pub front_value : (text : List ℕ) (n i : ℕ) → n < 2 ^ 64 → text ≡ decimal n →
    digits_value 10 (take i text) ≤ n
front_value text n i small e = omega (
  arith,
  digits_value-take-le 10 text i (omega arith),
  digits_value-spelled text n small e,
)

pub one_more_digit : (text : List ℕ) (i : ℕ) → i < length text → IsInRange 48 57 (get_or text i 0) →
    digits_value 10 (take (i + 1) text) ≡ digits_value 10
    (take i text) * 10 + (get_or text i 0 - 48)
one_more_digit text i within digit = omega (
  arith,
  digits_value_more 10 text i within,
  digit_value_digit (get_or text i 0) digit,
)

-- digits without a zero in front are the decimal of their number
pub decimal-read : (text : List ℕ) → AreDigits text → 0 < length text →
    (get_or text 0 0 ≡ 48 → length text ≡ 1) →
    digits_value 10 text < 2 ^ 64 → decimal (digits_value 10 text) ≡ text
decimal-read text digits some plain small = decimal-digits_value own text digits some plain small
