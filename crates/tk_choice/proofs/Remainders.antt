-- A power of two has remainders.
use Rattle.std.proofs.Common.{◌≡◌, ℕ, zero, suc, ◌<◌, true, false, IsTrue, arith}
use Rattle.std.specs.Int.{is_power_of_two}
use Rattle.std.specs.Int.Count.{ones}

pub power_above_zero : (n : ℕ) → IsTrue (is_power_of_two n) → 0 < n
unfolding ones
power_above_zero zero h = absurd (none h)
  where
    none : false ≡ true → ⊥
    none e = cc e
power_above_zero (suc n) h = omega arith
