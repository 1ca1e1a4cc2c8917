-- Checks that are all passed.
use Rattle.std.proofs.Common.{◌≡◌, ℕ, zero, suc, ◌+◌, ◌≤◌, ◌<◌, true, ◌&&◌, Bool, cond, List, [], ◌∷◌, ◌++◌, map, refl, sym, ap, ◌∙◌, arith}
use Rattle.std.specs.Prelude.{Some, None}
use Rattle.std.specs.List.{range_with_len, AllByRecursion}
use Rattle.tk_checkpoint.specs.Sound.{Check, first_refusal}
use Rattle.tk_checkpoint.proofs.Checking.{refusal-after}

pub passed-append : (a b : List Check) → first_refusal a ≡ None → first_refusal b ≡ None →
    first_refusal (a ++ b) ≡ None
passed-append a b e f = refusal-after a b (sym e) ∙ f

-- one in front of others
pub passed-cons : (c : Check) (cs : List Check) → c.passed ≡ true → first_refusal cs ≡ None →
    first_refusal (c ∷ cs) ≡ None
passed-cons c cs e rest = ap (λ b. cond b (first_refusal cs) (Some c.refusal)) e ∙ rest

-- each of them
pub passed-all : (cs : List Check) → AllByRecursion (λ (c : Check). c.passed ≡ true) cs → first_refusal cs ≡ None
passed-all [] each = refl
passed-all (c ∷ cs) each = passed-cons c cs each.0 (passed-all cs each.1)

-- three tests that are passed
pub all-three : (a b c : Bool) → a ≡ true → b ≡ true → c ≡ true → (a && b && c) ≡ true
all-three a b c e f g = ap (λ x. x && b && c) e ∙ ap (λ x. x && c) f ∙ g

-- each of some numbers has its check
pub passed-range : (check_at : ℕ → Check) (from count : ℕ) →
    ((n : ℕ) → from ≤ n → n < from + count → (check_at n).passed ≡ true) →
    first_refusal (map check_at (range_with_len from count)) ≡ None
passed-range check_at from count each = passed-all (map check_at (range_with_len from count)) (all from count each)
  where
    all : (a n : ℕ) → ((k : ℕ) → a ≤ k → k < a + n → (check_at k).passed ≡ true) →
        AllByRecursion (λ (c : Check). c.passed ≡ true) (map check_at (range_with_len a n))
    all a zero h = tt
    all a (suc n) h =
        (h a (omega arith) (omega arith), all (a + 1) n (λ k low high. h k (omega (arith, low)) (omega (arith, high))))
