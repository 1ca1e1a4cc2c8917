-- What an object that may tell its content holds before and after a call, and when its count of faults rose.
use Rattle.std.specs.Prelude.{◌≡◌, ℕ, ◌+◌, ◌^◌, ◌<◌, ◌≤◌, ◌↔◌, ◌⊎◌, List, [], ◌++◌, length, Option, Some, None}

-- the count is greater than it was, or stands at its type's end
abbrev pub Rose : ℕ → ℕ → Type 0
Rose old new = (old < new) ⊎ (2 ^ 64 ≤ new + 1)

-- what an object has left, or holds, where it tells it
abbrev pub Told : Type 0
Told = Option (List ℕ)

-- what is held when bytes came to it; an object that tells nothing still tells nothing
abbrev pub gained : Option (List ℕ) → List ℕ → Option (List ℕ)
gained (Some held) bytes = Some (held ++ bytes)
gained None bytes = None

-- what was left before these bytes were taken
abbrev pub before_taking : List ℕ → Option (List ℕ) → Option (List ℕ)
before_taking bytes (Some rest) = Some (bytes ++ rest)
before_taking bytes None = None

-- what is left where all was taken
abbrev pub emptied : Option (List ℕ) → Option (List ℕ)
emptied (Some rest) = Some []
emptied None = None

-- What was left goes over to what is left by taking these bytes, at most one more than the limit, and there are more
-- than the limit exactly where it is said so.
pub record TakesUpTo (limit : ℕ) (old new : Option (List ℕ)) (over : Type 0) (taken : List ℕ) : Type 0 where
  pub bytes : old ≡ before_taking taken new
  pub most : length taken ≤ limit + 1
  pub exactly : over ↔ (limit < length taken)
