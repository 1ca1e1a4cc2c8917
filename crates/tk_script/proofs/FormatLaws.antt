-- The line that names a script's format.
use Rattle.std.proofs.Common.{◌≡◌, ◌∙◌, ℕ, zero, suc, ◌≤◌, [], ◌∷◌, decimal, codes, Bool, true, false, cond, IsTrue, Ok, Err, refl, ap, sym, subst, arith}
use Rattle.std.specs.Fmt.{digits}
use Rattle.std.specs.Str.{bytes_eq}
use Rattle.std.proofs.lemmas.Slice.Eq.{bytes_eq-Decides}
use Rattle.tk_shape.specs.declared.shape.Shape.{Shape}
use Rattle.tk_shape.specs.Limits.{is_between}
use Rattle.tk_script.specs.declared.cause.Cause.TheVariants as cause
use Rattle.tk_script.specs.Grammar.{Line, fields, format_line}
use Rattle.tk_script.specs.Reading.{Verdict, read_format}
use Rattle.tk_script.proofs.OptionLaws.{ok_same}

abbrev pub line_of : ℕ → Line
line_of format = fields (codes "talek" ∷ decimal format ∷ [])

one : line_of 1 ≡ codes "talek 1"
unfolding digits
one = refl

two : line_of 2 ≡ codes "talek 2"
unfolding digits
two = refl

read_named : (format : ℕ) → 1 ≤ format → format ≤ 2 → read_format (line_of format) ≡ Ok format
read_named zero low high = absurd (omega (arith, low))
read_named (suc zero) low high = ap read_format one
read_named (suc (suc zero)) low high = ap read_format two
read_named (suc (suc (suc more))) low high = absurd (omega (arith, high))

pub format_whole : (shape : Shape) → read_format (format_line shape) ≡ Ok shape.format
format_whole shape = read_named shape.format shape.in_range.format_low shape.in_range.format_high

-- the line of a format
pub record IsFormat (line : Line) (format : ℕ) : Type 0 where
  pub whole : line ≡ line_of format
  pub known : IsTrue (is_between 1 2 format)

format_from : (line : Line) (format : ℕ) (a b : Bool) → bytes_eq line (codes "talek 1") ≡ a →
    bytes_eq line (codes "talek 2") ≡ b →
    ◌≡◌ {A = Verdict ℕ} (cond a (Ok 1) (cond b (Ok 2) (Err cause.Form))) (Ok format) →
    IsFormat line format
format_from line format true b first second said =
    subst (IsFormat line) (ok_same 1 format said)
    (record { whole = (bytes_eq-Decides line (codes "talek 1")).0 first ∙ sym one; known = refl })
format_from line format false true first second said =
    subst (IsFormat line) (ok_same 2 format said)
    (record { whole = (bytes_eq-Decides line (codes "talek 2")).0 second ∙ sym two; known = refl })
format_from line format false false first second said = absurd (cc said)

pub format_is : (line : Line) (format : ℕ) → read_format line ≡ Ok format → IsFormat line format
format_is line format said =
    format_from line format (bytes_eq line (codes "talek 1")) (bytes_eq line (codes "talek 2")) refl
    refl said
