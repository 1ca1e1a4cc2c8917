-- The marks of a filter as bytes: position p is bit p % 8, the least first, of byte p / 8.
use Rattle.std.specs.Prelude.{ℕ, zero, suc, ◌+◌, ◌*◌, cond, Bool, false, List, map, slice_index_or}
use Rattle.std.specs.List.{range_with_len}

-- 1 for a position that is marked, else 0; one past the last mark isn't
abbrev pub mark_at : List Bool → ℕ → ℕ
mark_at marks p = cond (slice_index_or marks p false) 1 0

-- the number whose bits are the marks of this many positions from p on, the least bit first
unfoldable pub bits_from : ℕ → List Bool → ℕ → ℕ
bits_from zero marks p = 0
bits_from (suc count) marks p = mark_at marks p + 2 * bits_from count marks (p + 1)

-- byte i of the marks
abbrev pub mark_byte : List Bool → ℕ → ℕ
mark_byte marks i = bits_from 8 marks (8 * i)

-- the first so many bytes
unfoldable pub mark_bytes : ℕ → List Bool → List ℕ
mark_bytes count marks = map (mark_byte marks) (range_with_len 0 count)
