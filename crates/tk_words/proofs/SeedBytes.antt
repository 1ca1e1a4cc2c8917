-- Bytes of which no mask marks two that differ are the same.
use Rattle.std.proofs.Common.{◌≡◌, ◌∙◌, refl, sym, ap, ap₂, arith, tests}
use Rattle.std.proofs.Common.{ℕ, ◌+◌, ◌*◌, ◌^◌, ◌%◌, ◌-◌, ◌≤◌, Bool, true, false, cond, nat_eq}
use Rattle.std.proofs.Common.{List, [], ◌∷◌, length, map, take}
use Rattle.std.proofs.lemmas.List.{take_all}
use Rattle.std.specs.Prelude.{not}
use Rattle.std.proofs.lemmas.Bool.{eqb-true}
use Rattle.std.proofs.lemmas.Simd.{tops_compared, mask_l-mod}
use lib.Lanes.{zip2, top, mask_l}
use mir.Syntax.{w8}

abbrev pub differ : ℕ → ℕ → Bool
differ x y = not (nat_eq x y)

equal-from : (x y : ℕ) → differ x y ≡ false → x ≡ y
equal-from x y same = grind (arith, tests)

length-zip : (xs ys : List ℕ) (n : ℕ) → length xs ≡ n → length (zip2 differ xs ys) ≤ n
length-zip [] ys n long = omega arith
length-zip (x ∷ xs) [] n long = omega arith
length-zip (x ∷ xs) (y ∷ ys) n long =
    omega (arith, long, length-zip xs ys (length xs) refl)

unmarked-same : (xs ys : List ℕ) → length xs ≡ length ys → mask_l (zip2 differ xs ys) ≡ 0 → xs ≡ ys
unmarked-same [] [] long none = refl
unmarked-same [] (y ∷ ys) long none = absurd (omega (arith, long))
unmarked-same (x ∷ xs) [] long none = absurd (omega (arith, long))
unmarked-same (x ∷ xs) (y ∷ ys) long none =
    let later = unmarked-same xs ys (omega (arith, long)) in
    elim (differ x y) as (λ b. differ x y ≡ b →
    cond b 1 0 + 2 * mask_l (zip2 differ xs ys) ≡ 0 → ◌≡◌ {A = List ℕ} (x ∷ xs) (y ∷ ys)) [
      | true ↦ λ is some. absurd (omega (arith, some))
      | false ↦ λ is rest.
          ap₂ (λ (z : ℕ) (zs : List ℕ). z ∷ zs) (equal-from x y is) (later (omega (arith, rest)))
    ] refl none

pub same-bytes : (xs ys : List ℕ) → length xs ≡ 32 → length ys ≡ 32 →
    nat_eq (mask_l (map (top 7)
    (zip2 (λ a b. cond (differ a b) (2 ^ 8 - 1) 0) (take 32 xs) (take 32 ys))) % 2 ^ 64) 0 ≡ true →
    xs ≡ ys
same-bytes xs ys one other none =
    let whole : take 32 xs ≡ xs = take_all 32 xs (omega (arith, one)) in
    let whole_other : take 32 ys ≡ ys = take_all 32 ys (omega (arith, other)) in
    let marks = zip2 differ xs ys in
    let masked =
    ap (λ (ms : List Bool). mask_l ms % 2 ^ 64)
    (tops_compared w8 differ (take 32 xs) (take 32 ys)
    ∙ ap₂ (λ (ms ns : List ℕ). zip2 differ ms ns) whole whole_other)
    in
    let short : length marks ≤ 64 = omega (arith, length-zip xs ys 32 one) in
    unmarked-same xs ys (one ∙ sym other)
    (sym (mask_l-mod marks 64 short) ∙ sym masked ∙ eqb-true _ 0 none)
