-- The buckets of a page, found by doubling.
use Rattle.std.proofs.Common.{◌≡◌, ◌⊎◌, ℕ, ◌+◌, ◌*◌, ◌^◌, ◌<◌, ◌≤◌, ap, ◌∙◌, arith, inl, inr, lit<, refl}
use Rattle.std.proofs.Math.Nat.{pow-le-pow_right, mul-le-mul_right, mul_right_comm}
use Rattle.std.proofs.lemmas.Bool.{cases_lt}
use Rattle.tk_bucket.specs.Paging.{IsPerPage}
use Rattle.tk_bucket.proofs.Powers.{doubled, exponent_most}

pub doubled_len : (per width len : ℕ) → len ≡ per * width → len * 2 ≡ per * 2 * width
doubled_len per width len e = ap (λ n. n * 2) e ∙ mul_right_comm per width 2

-- it can't be doubled once more
pub per_page_found : (buckets width per shift len : ℕ) → per ≡ 2 ^ shift → per ≤ buckets
    → len ≡ per * width → (1 < per → len ≤ 4096) → (2048 < len) ⊎ (buckets < per * 2)
    → IsPerPage buckets width per
per_page_found buckets width per shift len power few long small last =
    record {
      power = (shift, power);
      few = few;
      small = λ h. rw (← long) (small h);
      greatest = λ k fits within.
          elim (cases_lt shift k) [
            | inr le ↦ rw power (pow-le-pow_right (lit< tt) le)
            | inl lt ↦
                let next : per * 2 ≡ 2 ^ (shift + 1) = doubled shift per power in
                let above : 2 ^ (shift + 1) ≤ 2 ^ k = pow-le-pow_right (lit< tt) (omega (arith, lt)) in
                elim last [
                  | inr most ↦ absurd (omega (arith, most, next, above, within))
                  | inl over ↦
                      let wider : 2 ^ (shift + 1) * width ≤ 2 ^ k * width = mul-le-mul_right width above in
                      let twice : len * 2 ≡ 2 ^ (shift + 1) * width =
                      doubled_len per width len long ∙ ap (λ n. n * width) next in
                      absurd (omega (arith, over, twice, wider, fits))
                ]
          ];
    }

-- few doublings give the buckets of a page
pub few_doublings : (shift per buckets : ℕ) → per ≡ 2 ^ shift → per ≤ buckets → buckets ≤ 16384
    → shift ≤ 14
few_doublings shift per buckets power few most =
    exponent_most shift 14 (omega (arith, power, few, most, whole))
  where
    whole : 2 ^ 14 ≡ 16384
    whole = refl
