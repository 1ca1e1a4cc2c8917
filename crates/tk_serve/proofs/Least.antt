-- The least of some numbers.
use Rattle.std.proofs.Common.{ℕ, zero, suc, ◌+◌, ◌<◌, ◌≤◌, List, [], ◌∷◌, length, get_or, set, arith}
use Rattle.std.proofs.Math.Nat.{min-le_left, min-le_right, le-min}
use Rattle.tk_serve.specs.Seats.{least}

pub least-top : (n : ℕ) (ms : List ℕ) → least n ms ≤ n
least-top n [] = omega arith
least-top n (m ∷ ms) = omega (arith, min-le_right m (least n ms), least-top n ms)

pub least-below : (n : ℕ) (ms : List ℕ) (i d : ℕ) → i < length ms → least n ms ≤ get_or ms i d
least-below n [] i d low = absurd (omega (arith, low))
least-below n (m ∷ ms) zero d low = min-le_left m (least n ms)
least-below n (m ∷ ms) (suc i) d low =
    omega (arith, min-le_right m (least n ms), least-below n ms i d (omega (arith, low)))

pub least-above : (n k : ℕ) (ms : List ℕ) → k ≤ n → ((i : ℕ) → i < length ms → k ≤ get_or ms i 0) →
    k ≤ least n ms
least-above n k [] top each = top
least-above n k (m ∷ ms) top each =
    le-min (each 0 (omega arith)) (least-above n k ms top (λ i low. each (suc i) (omega (arith, low))))

-- where one of the numbers is one more, the least is at most one more
pub least-next : (n : ℕ) (ms : List ℕ) (i : ℕ) →
    least n (set ms i (get_or ms i 0 + 1)) ≤ least n ms + 1
least-next n [] i = omega arith
least-next n (m ∷ ms) zero = omega arith
least-next n (m ∷ ms) (suc i) = omega (arith, least-next n ms i)
