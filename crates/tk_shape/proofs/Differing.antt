-- Where two lists of numbers differ.
use Rattle.std.proofs.Common.{◌≡◌, ℕ, true, false, cond, refl, ap, ap₂, sym, ◌∙◌, arith}
use Rattle.std.proofs.Common.{List, [], ◌∷◌, length, Some, None, eq-eqb, eqb-true}
use Rattle.std.specs.Prelude.{◌==◌, ◌↔◌, Bool, not, find, Option}
use Rattle.tk_shape.specs.declared.field.Field.{Field}
use Rattle.tk_shape.specs.declared.shape.Shape.{Shape}
use Rattle.tk_shape.specs.declared.differs.Differs.{Differs}
use Rattle.tk_shape.specs.Numbers.{format_and_numbers}
use Rattle.tk_shape.specs.Differences.{fields, side_by_side, are_apart, first_difference}
use Rattle.tk_shape.proofs.OneShape.{one_shape}

abbrev pair : Field → ℕ → ℕ → Differs
pair f a b = record { field = f; a = a; b = b }

none_differs : (fs : List Field) (ns : List ℕ) → find are_apart (side_by_side fs ns ns) ≡ None
none_differs [] ns = refl
none_differs (f ∷ fs) [] = refl
none_differs (f ∷ fs) (n ∷ ns) =
    ap (λ b. cond (not b) (Some (pair f n n)) (find are_apart (side_by_side fs ns ns)))
    (eq-eqb n n refl)
    ∙ none_differs fs ns

equal-here : (d : Differs) (rest : Option Differs) (b : Bool) → (d.a == d.b) ≡ b →
    cond (not b) (Some d) rest ≡ None → (d.a ≡ d.b) × (rest ≡ None)
equal-here d rest true same none = (eqb-true d.a d.b same, none)
equal-here d rest false same none = absurd cc

all_equal : (fs : List Field) (ns ms : List ℕ) → length ns ≡ length fs → length ms ≡ length fs →
    find are_apart (side_by_side fs ns ms) ≡ None → ns ≡ ms
all_equal [] [] [] long wide none = refl
all_equal [] [] (m ∷ ms) long wide none = absurd (omega (arith, wide))
all_equal [] (n ∷ ns) ms long wide none = absurd (omega (arith, long))
all_equal (f ∷ fs) [] ms long wide none = absurd (omega (arith, long))
all_equal (f ∷ fs) (n ∷ ns) [] long wide none = absurd (omega (arith, wide))
all_equal (f ∷ fs) (n ∷ ns) (m ∷ ms) long wide none =
    let here = equal-here (pair f n m) (find are_apart (side_by_side fs ns ms)) (n == m) refl none in
    ap₂ (λ (k : ℕ) (ks : List ℕ). k ∷ ks) here.0
    (all_equal fs ns ms (omega (arith, long)) (omega (arith, wide)) here.1)

first_same : {n m : ℕ} {ns ms : List ℕ} → ◌≡◌ {A = List ℕ} (n ∷ ns) (m ∷ ms) → n ≡ m
first_same e = cc e

rest_same : {n m : ℕ} {ns ms : List ℕ} → ◌≡◌ {A = List ℕ} (n ∷ ns) (m ∷ ms) → ns ≡ ms
rest_same e = cc e

same-shape : (s t : Shape) → first_difference s t ≡ None → s ≡ t
same-shape s t none =
    let same = all_equal fields (format_and_numbers s) (format_and_numbers t) refl refl none in
    one_shape s t (first_same same) (rest_same same)

no_difference : (s t : Shape) → s ≡ t → first_difference s t ≡ None
no_difference s t same =
    ap (λ (u : Shape). first_difference s u) (sym same) ∙ none_differs fields (format_and_numbers s)

-- there is no first difference exactly where the shapes are equal
pub equal-first : (s t : Shape) (first : Option Differs) → first ≡ first_difference s t →
    (first ≡ None) ↔ (s ≡ t)
equal-first s t first is = (
  λ none. same-shape s t (sym is ∙ none),
  λ same. is ∙ no_difference s t same,
)
