-- In which phase the turn after a turn is.
use Rattle.std.proofs.Common.{◌≡◌, ℕ, ◌+◌, ◌*◌, ◌/◌, ◌%◌, ◌<◌, inl, inr, Bool, cond}
use Rattle.std.proofs.Common.{ap, sym, ◌∙◌, arith, add-one, suc-mul, ne_eqb}
use Rattle.std.specs.Prelude.{◌==◌}
use Rattle.std.proofs.lemmas.Bool.{cases_lt}
use Rattle.std.proofs.lemmas.Nat.{div-add-mod', div-mul-add, mod-mul-add}
use Rattle.std.proofs.Math.Nat.{mod-lt}

abbrev pub one_if : Bool → ℕ
one_if b = cond b 1 0

pub one_more : (q n : ℕ) → (q + 1) * n ≡ q * n + n
one_more q n = omega (arith, suc-mul q n, ap (λ k. k * n) (add-one q))

-- a turn after turn g, in a phase of t turns
pub next_in_phase : (t g : ℕ) → 0 < t → (g + 1) / t ≡ g / t + cond ((g + 1) % t == 0) 1 0
next_in_phase t g some =
    let split : g / t * t + g % t ≡ g = div-add-mod' g t in
    elim (cases_lt (g % t + 1) t) [
      | inl within ↦
          let whole : g / t * t + (g % t + 1) ≡ g + 1 = omega (arith, split) in
          let quotient : (g + 1) / t ≡ g / t = ap (λ n. n / t) (sym whole) ∙ div-mul-add (g / t) t (g % t + 1) within in
          let rest : (g + 1) % t ≡ g % t + 1 = ap (λ n. n % t) (sym whole) ∙ mod-mul-add (g / t) t (g % t + 1) within in
          let not_zero = ap (λ n. n == 0) rest ∙ ne_eqb (g % t + 1) 0 (λ e. omega (arith, e)) in
          quotient ∙ omega (arith, ap one_if not_zero)
      | inr last ↦
          let whole : (g / t + 1) * t + 0 ≡ g + 1 = omega (arith, split, last, mod-lt g some, one_more (g / t) t) in
          let quotient : (g + 1) / t ≡ g / t + 1 = ap (λ n. n / t) (sym whole) ∙ div-mul-add (g / t + 1) t 0 some in
          let rest : (g + 1) % t ≡ 0 = ap (λ n. n % t) (sym whole) ∙ mod-mul-add (g / t + 1) t 0 some in
          quotient ∙ omega (arith, ap one_if (ap (λ n. n == 0) rest))
    ]
