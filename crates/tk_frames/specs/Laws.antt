-- What laws say of frames.
use Rattle.std.specs.Prelude.{◌≡◌, ℕ, ◌<◌, ◌↔◌, List, [], ◌++◌, slice_index, None}
use Rattle.tk_frames.specs.Faults.{Check, first_fault}

-- a list of numbers below 256
abbrev pub AreBytes : List ℕ → Type 0
AreBytes bytes = (i : ℕ) → slice_index bytes i < 256

-- No two values in range share a spelling, and no spelling begins another.
abbrev pub IsOneSpelling : {V : Type 0} → (V → Type 0) → (V → List ℕ) → Type 0
IsOneSpelling {V} InRange spelling =
    (a b : V) (rest : List ℕ) → InRange a → InRange b → spelling b ≡ spelling a ++ rest → (a ≡ b) × (rest ≡ [])

-- Bytes have no fault exactly where they are the spelling of a value in range.
abbrev pub FindsEachFault : {V : Type 0} → (V → Type 0) → (V → List ℕ) → (List ℕ → List Check) → Type 0
FindsEachFault {V} InRange spelling checks =
    (bytes : List ℕ) → AreBytes bytes → (first_fault (checks bytes) ≡ None) ↔ ((v : V) × InRange v × (bytes ≡ spelling v))
