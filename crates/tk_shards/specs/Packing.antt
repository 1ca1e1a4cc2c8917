-- The bytes in which a range's blocks lie.
use Rattle.std.specs.Prelude.{◌≡◌, ℕ, ◌+◌, ◌*◌, ◌%◌, ◌<◌, ◌≤◌, List, length, take, drop}
use Rattle.tk_kernel.specs.Pieces.{all_pieces}
use Rattle.tk_shards.specs.Ranged.{Ranged, padded, most_blocks}

-- the range of so many blocks, the first of which has this number; there may be others in its eight
abbrev pub ranged : ℕ → ℕ → ℕ → List ℕ → Ranged
ranged width first count bytes =
    record {
      width = width;
      first = first;
      blocks = take count (drop (first % 8) (all_pieces width bytes));
    }

-- the bytes are those of the blocks and of the zeros around them, and their number fits in 32 bits
pub record IsPacked (width first count : ℕ) (bytes : List ℕ) : Type 0 where
  pub some : 0 < width
  pub counted : length (ranged width first count bytes).blocks ≡ count
  pub pieces : all_pieces width bytes ≡ padded (ranged width first count bytes)
  pub whole : length bytes ≡ length (padded (ranged width first count bytes)) * width
  pub small : first + count ≤ most_blocks
