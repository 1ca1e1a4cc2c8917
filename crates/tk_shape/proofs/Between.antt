-- Numbers within limits.
use Rattle.std.proofs.Common.{◌≡◌, ℕ, ◌≤◌, true}
use Rattle.std.specs.Prelude.{nat_le}
use Rattle.std.proofs.lemmas.Bool.{and_parts, and_from, leb-true, le-leb}
use Rattle.tk_shape.specs.Limits.{is_between}

pub between-parts : (low high n : ℕ) → is_between low high n ≡ true → (low ≤ n) × (n ≤ high)
between-parts low high n h =
    let both = and_parts (nat_le low n) (nat_le n high) h in
    (leb-true low n both.0, leb-true n high both.1)

pub between-from : (low high n : ℕ) → low ≤ n → n ≤ high → is_between low high n ≡ true
between-from low high n above below =
    and_from (nat_le low n) (nat_le n high) (le-leb low n above) (le-leb n high below)
