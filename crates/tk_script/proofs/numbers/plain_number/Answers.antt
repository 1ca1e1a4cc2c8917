-- Where it answers none the text is no number's decimal; else it is that of the number.
use Rattle.std.proofs.Common.{◌≡◌, ℕ, ◌+◌, ◌<◌, ◌≤◌, length, take, get_or, ap, sym, ◌∙◌, arith, rules, Some, decimal, List, below_more}
use Rattle.std.proofs.lemmas.List.{take_all}
use Rattle.std.specs.Int.{IsInRange}
use Rattle.std.specs.Str.Parse.{digits_value}
use Rattle.tk_script.proofs.NumberLaws.{AreDigits, not_empty, no_leading_zero, all_digits, digits_value-spelled, front_value, one_more_digit, decimal-read}
use Rattle.tk_script.proofs.numbers.plain_number.Goals as goal
use Rattle.tk_script.proofs.numbers.plain_number.Goals.{else-text-eq48-via-then-text-eq48+else-text-gt1, else-text-eq48-via-else-text-eq48}

pub returns-then-is_empty-clause-only : goal.returns-then-is_empty-clause-only
returns-then-is_empty-clause-only c n small e =
    let empty : length c.args.text.now ≡ 0 = search rules in
    absurd (not_empty c.args.text.now n small e empty)

pub returns-then-text-gt1-clause-only : goal.returns-then-text-gt1-clause-only
returns-then-text-gt1-clause-only c n small e =
    absurd (no_leading_zero c.args.text.now n small e (search rules) (search rules))

pub returns-then-byte-lt48-clause-only : goal.returns-then-byte-lt48-clause-only
returns-then-byte-lt48-clause-only c n small e =
    let digits = all_digits c.args.text.now n small e c.loop-byte.byte-index in
    absurd (grind (arith, digits))

pub returns-then-number-digit-clause-only : goal.returns-then-number-digit-clause-only
returns-then-number-digit-clause-only c n small e =
    let at = c.loop-byte.byte-index in
    let digit = all_digits c.args.text.now n small e at c.loop-byte-test.true in
    let more = one_more_digit c.args.text.now at c.loop-byte-test.true digit in
    let front = front_value c.args.text.now n (at + 1) small e in
    absurd (omega (arith, more, front, c.loop-byte.invariant.value, c.from-digit.ensures))

pub loop-byte-preserved : goal.loop-byte-preserved
loop-byte-preserved c =
    let at = c.loop-byte.byte-index in
    let digit : IsInRange 48 57 (get_or c.args.text.now at 0) = (omega arith, omega arith) in
    let more = one_more_digit c.args.text.now at c.loop-byte-test.true digit in
    record {
      value = omega (arith, more, c.loop-byte.invariant.value, c.from-digit.ensures);
      digits = below_more (λ k. IsInRange 48 57 (get_or c.args.text.now k 0)) at
          c.loop-byte.invariant.digits digit;
    }

whole : (text : List ℕ) (at : ℕ) → length text ≤ at → take at text ≡ text
whole text at all = take_all at text all

pub returns-clause-found : goal.returns-clause-found
returns-clause-found c =
    let all = whole c.args.text.now c.loop-byte.byte-index c.loop-byte-test.false in
    let value : c.loop-byte.number ≡ digits_value 10 c.args.text.now = c.loop-byte.invariant.value
    ∙ ap (digits_value 10) all in
    let some : 0 < length c.args.text.now = search rules in
    let plain : get_or c.args.text.now 0 0 ≡ 48 → length c.args.text.now ≡ 1 =
    λ zero. elim c.else-text-eq48.branch [
      | else-text-eq48-via-then-text-eq48+else-text-gt1 w ↦ omega arith
      | else-text-eq48-via-else-text-eq48 w ↦ absurd (w.if-text-eq48.false zero)
    ]
    in
    let digits : AreDigits c.args.text.now = λ k within. c.loop-byte.invariant.digits k
    (omega (arith, within)) in
    sym (decimal-read c.args.text.now digits some plain (omega (arith, value)))
    ∙ ap decimal (sym value)

pub returns-clause-only : goal.returns-clause-only
returns-clause-only c n small e =
    let all = whole c.args.text.now c.loop-byte.byte-index c.loop-byte-test.false in
    ap Some (c.loop-byte.invariant.value ∙ ap (digits_value 10) all
    ∙ digits_value-spelled c.args.text.now n small e)
