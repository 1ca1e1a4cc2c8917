-- A piece and a word of a list of bytes.
use Rattle.std.specs.Prelude.{ℕ, ◌*◌, List, take, drop}
use Rattle.std.specs.Int.{w32, from_be_bytes}

-- piece number i of those that have size bytes each
abbrev pub piece : ℕ → ℕ → List ℕ → List ℕ
piece size i bytes = take size (drop (i * size) bytes)

-- the big-endian word of 32 bits that begins at byte i
unfoldable pub word_at_byte : ℕ → List ℕ → ℕ
word_at_byte i bytes = from_be_bytes w32 (take 4 (drop i bytes))
