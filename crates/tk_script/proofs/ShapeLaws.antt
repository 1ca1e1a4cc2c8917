-- A shape and its numbers.
use Rattle.std.proofs.Common.{◌≡◌, ℕ, List, [], ◌∷◌, length, map, decimal, codes, IsTrue, Option, Some, None, Ok, refl, ap, ◌∙◌, subst, arith}
use Rattle.std.specs.Prelude.{◌==◌}
use Rattle.std.proofs.lemmas.Bool.{eqb-true}
use Rattle.std.proofs.Math.Nat.{mul-le-mul_left, mul-le-mul_right}
use Rattle.std.specs.List.{AllByRecursion}
use Rattle.tk_shape.specs.declared.shape.Shape.{Shape}
use Rattle.tk_shape.specs.Numbers.{numbers_of}
use Rattle.tk_shape.specs.Limits.{Numbers, Limit, is_between, broken, numbers_in}
use Rattle.tk_shape.proofs.Offers.{one_shape, none_broken, shape_of}
use Rattle.tk_script.specs.declared.cause.Cause.TheVariants as cause
use Rattle.tk_script.specs.Grammar.{Line, fields, shape_line, IsNumber}
use Rattle.tk_script.specs.Reading.{named, numbers_after, unbroken, read_numbers, read_shape}
use Rattle.tk_script.proofs.CauseLaws.{lacks_by_test}
use Rattle.tk_script.proofs.OptionLaws.{ok_same, verdict_if}
use Rattle.tk_script.proofs.PartLaws.{numbers_after-are, numbers_after-some}

-- a shape's numbers are words
pub numbers_are_words : (s : Shape) → AllByRecursion IsNumber (numbers_of s)
numbers_are_words s =
    let r = s.in_range in
    let first = mul-le-mul_right s.depth r.buckets_high in
    let second = mul-le-mul_left 16384 r.depth_high in (
      omega (arith, r.servers_high),
      (
        omega (arith, r.buckets_high),
        (
          omega (arith, r.depth_high),
          (
            omega (arith, r.retained_high, first, second),
            (
              omega (arith, r.block_high),
              (
                omega (arith, r.filter_high),
                (
                  omega (arith, r.hits_high),
                  (
                    omega (arith, r.ahead_high),
                    (
                      omega (arith, r.clients_high),
                      (
                        omega (arith, r.phases_high),
                        (omega (arith, r.ticks_high), (omega (arith, r.logs_high), tt)),
                      ),
                    ),
                  ),
                ),
              ),
            ),
          ),
        ),
      ),
    )

-- ---- a shape's line

pub shape_whole : (s : Shape) (line : Line) → line ≡ shape_line s →
    read_shape s.format line ≡ Ok (named s)
shape_whole s line e =
    ap (read_numbers s.format) (numbers_after-some (codes "shape") line (numbers_of s)
    (lacks_by_test (codes "shape") refl) (numbers_are_words s) e)
    ∙ ap (unbroken (named s)) (none_broken s)

unbroken_from : (n m : Numbers) (o : Option Limit) → unbroken n o ≡ Ok m → (n ≡ m) × (o ≡ None)
unbroken_from n m None e = (ok_same n m e, refl)
unbroken_from n m (Some l) e = absurd (cc e)

-- twelve numbers, one after the other
abbrev listed : Numbers → List ℕ
listed n =
    n.servers ∷ n.buckets ∷ n.depth ∷ n.retained ∷ n.block ∷ n.filter_bits ∷ n.hits ∷ n.ahead
    ∷ n.clients ∷ n.phases ∷ n.ticks ∷ n.logs ∷ []

twelve : (format : ℕ) (ns : List ℕ) → length ns ≡ 12 → ns ≡ listed (numbers_in format ns)
twelve format [] long = absurd (omega (arith, long))
twelve format (a ∷ []) long = absurd (omega (arith, long))
twelve format (a ∷ b ∷ []) long = absurd (omega (arith, long))
twelve format (a ∷ b ∷ c ∷ []) long = absurd (omega (arith, long))
twelve format (a ∷ b ∷ c ∷ d ∷ []) long = absurd (omega (arith, long))
twelve format (a ∷ b ∷ c ∷ d ∷ e ∷ []) long = absurd (omega (arith, long))
twelve format (a ∷ b ∷ c ∷ d ∷ e ∷ f ∷ []) long = absurd (omega (arith, long))
twelve format (a ∷ b ∷ c ∷ d ∷ e ∷ f ∷ g ∷ []) long = absurd (omega (arith, long))
twelve format (a ∷ b ∷ c ∷ d ∷ e ∷ f ∷ g ∷ h ∷ []) long = absurd (omega (arith, long))
twelve format (a ∷ b ∷ c ∷ d ∷ e ∷ f ∷ g ∷ h ∷ i ∷ []) long = absurd (omega (arith, long))
twelve format (a ∷ b ∷ c ∷ d ∷ e ∷ f ∷ g ∷ h ∷ i ∷ j ∷ []) long = absurd (omega (arith, long))
twelve format (a ∷ b ∷ c ∷ d ∷ e ∷ f ∷ g ∷ h ∷ i ∷ j ∷ k ∷ []) long = absurd (omega (arith, long))
twelve format (a ∷ b ∷ c ∷ d ∷ e ∷ f ∷ g ∷ h ∷ i ∷ j ∷ k ∷ l ∷ []) long = refl
twelve format (a ∷ b ∷ c ∷ d ∷ e ∷ f ∷ g ∷ h ∷ i ∷ j ∷ k ∷ l ∷ x ∷ ns) long = absurd (omega (arith, long))

-- the line of a shape of a format, which has these numbers
pub record IsShapeLine (format : ℕ) (line : Line) (n : Numbers) : Type 0 where
  pub shape : Shape
  pub is : n ≡ named shape
  pub of_format : shape.format ≡ format
  pub whole : line ≡ shape_line shape

shape_from : (format : ℕ) (line : Line) (n : Numbers) (o : Option (List ℕ)) →
    IsTrue (is_between 1 2 format) → numbers_after (codes "shape") line ≡ o →
    read_numbers format o ≡ Ok n → IsShapeLine format line n
shape_from format line n None known e said = absurd (cc said)
shape_from format line n (Some ns) known e said =
    let all = numbers_in format ns in
    let test = verdict_if (length ns == 12) (unbroken all (broken all)) n cause.Form said in
    let kept = unbroken_from all n (broken all) test.1 in
    subst (IsShapeLine format line) kept.0 (record {
      shape = shape_of all known kept.1;
      is = refl;
      of_format = refl;
      whole = (numbers_after-are (codes "shape") line ns e).0
          ∙ ap (λ ms. fields (codes "shape" ∷ map decimal ms))
          (twelve format ns (eqb-true (length ns) 12 test.0));
    })

pub shape_is : (format : ℕ) (line : Line) (n : Numbers) → IsTrue (is_between 1 2 format) →
    read_shape format line ≡ Ok n → IsShapeLine format line n
shape_is format line n known e =
    shape_from format line n (numbers_after (codes "shape") line) known refl e

pub same_named : (s t : Shape) → named s ≡ named t → s ≡ t
same_named s t e = one_shape s t (ap (λ (n : Numbers). n.format) e) (ap listed e)
