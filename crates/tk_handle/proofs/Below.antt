-- Remainders are below what they are of.
use Rattle.std.proofs.Common.{ℕ, zero, suc, ◌+◌, ◌%◌, ◌<◌, map}
use Rattle.std.specs.List.{range_with_len, AllByRecursion}
use Rattle.std.proofs.Math.Nat.{mod-lt}

pub remainders_below : (f : ℕ → ℕ) (m a n : ℕ) → 0 < m → AllByRecursion (λ h. h < m) (map (λ i. f i % m) (range_with_len a n))
remainders_below f m a zero h = tt
remainders_below f m a (suc n) h = (mod-lt (f a) h, remainders_below f m (a + 1) n h)
