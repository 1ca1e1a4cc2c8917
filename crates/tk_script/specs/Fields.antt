-- Where a field of a line ends.
use Rattle.std.specs.Prelude.{◌≡◌, ◌≢◌, ◌<◌, List, ℕ, [], ◌∷◌, length, slice_index}

-- nothing follows, or a space
abbrev pub IsFieldEnd : List ℕ → Type 0
IsFieldEnd [] = Unit {0}
IsFieldEnd (b ∷ bytes) = b ≡ 0x20

-- no byte is a space
abbrev pub LacksSpace : List ℕ → Type 0
LacksSpace field = (k : ℕ) → k < length field → slice_index field k ≢ 0x20
