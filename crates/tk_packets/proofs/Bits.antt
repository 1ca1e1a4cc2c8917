-- The marks of positions, one more at the front.
use Rattle.std.proofs.Common.{◌≡◌, ℕ, suc, ◌+◌, ◌*◌, ◌^◌, ◌<◌, ◌≤◌, Bool, refl, ap, ◌∙◌, arith, List}
use Rattle.std.proofs.Math.Nat.{pow-succ'}
use Rattle.tk_packets.specs.Marks.{mark_at, bits_from}

pub bits_from-none : (marks : List Bool) (p : ℕ) → bits_from 0 marks p ≡ 0
unfolding bits_from
bits_from-none marks p = refl

pub bits_from-more : (marks : List Bool) (count p q : ℕ) → q ≡ p + 1 →
    mark_at marks p + 2 * bits_from count marks q ≡ bits_from (count + 1) marks p
unfolding bits_from
bits_from-more marks count p q after =
    ap (λ n. mark_at marks p + 2 * bits_from count marks n) after
    ∙ ap (λ n. bits_from n marks p) suc_is
  where
    suc_is : suc count ≡ count + 1
    suc_is = omega arith

-- one more bit
pub small_more : (byte bit count : ℕ) → byte < 2 ^ count → bit ≤ 1 → 2 * byte + bit < 2 ^ (count + 1)
small_more byte bit count small low =
    let e : 2 ^ (count + 1) ≡ 2 * 2 ^ count = ap (λ n. 2 ^ n) next ∙ pow-succ' 2 count in
    omega (arith, e, small)
  where
    next : count + 1 ≡ suc count
    next = omega arith
