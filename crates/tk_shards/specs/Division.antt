-- Buckets divided into ranges.
use Rattle.std.specs.Prelude.{◌≡◌, ℕ, ◌+◌, ◌^◌, ◌<◌, ◌≤◌, nat_lt, ◌||◌, List, [], ◌∷◌, Option, Some, None}
use Rattle.std.specs.Prelude.{if◌then◌else◌}
use Rattle.tk_shards.specs.declared.division.DivisionError.{DivisionError}
use Rattle.tk_shards.specs.declared.division.DivisionError.TheVariants.{Cut, Memory}

-- how many buckets there are, and where each range but the first begins
pub record Divided : Type 0 where
  pub buckets : ℕ
  pub cuts : List ℕ

-- of these cuts, the first of which is number n, the first that is below the one before it or above
-- the buckets
abbrev pub first_cut : ℕ → ℕ → ℕ → List ℕ → Option ℕ
first_cut n before buckets [] = None
first_cut n before buckets (c ∷ cs) =
    if nat_lt c before || nat_lt buckets c then Some n else first_cut (n + 1) c buckets cs

-- the refusal of cut number n; a number that 32 bits can't hold counts as want of memory
pub record IsRefusalAt (n : ℕ) (e : DivisionError) : Type 0 where
  pub named : n < 2 ^ 32 → e ≡ Cut n
  pub beyond : 2 ^ 32 ≤ n → e ≡ Memory

-- that cut is refused; where there is none, memory was wanting
abbrev pub IsCutRefusal : Option ℕ → DivisionError → Type 0
IsCutRefusal None e = e ≡ Memory
IsCutRefusal (Some n) e = IsRefusalAt n e

-- where each range begins and where it ends
abbrev pub ranges_from : ℕ → ℕ → List ℕ → List (ℕ × ℕ)
ranges_from first buckets [] = (first, buckets) ∷ []
ranges_from first buckets (c ∷ cs) = (first, c) ∷ ranges_from c buckets cs

abbrev pub ranges_of : Divided → List (ℕ × ℕ)
ranges_of d = ranges_from 0 d.buckets d.cuts
