-- Blocks added to many sums, some neighbouring bytes at a time.
use Rattle.std.specs.Prelude.{◌≡◌, ℕ, ◌*◌, ◌<◌, ◌≤◌, List, ◌++◌, length, take, drop, slice_index, slice_index_or, Vec}
use Rattle.std.specs.Global.{Global}
use Rattle.tk_kernel.specs.Chosen.{chosen_from}
use Rattle.tk_kernel.specs.Pieces.{pieces}
use Rattle.tk_kernel.specs.Words.{bytes_of}
use Rattle.tk_kernel.specs.Xor.{xor_bytes, xor_all}

-- of two lists the first, with its first i bytes those of their sum
unfoldable pub xor_front : ℕ → List ℕ → List ℕ → List ℕ
xor_front i xs ys = take i (xor_bytes xs ys) ++ drop i xs

-- the sum of those blocks that so many bytes choose, each of eight
abbrev pub chosen_of_eights : ℕ → ℕ → List ℕ → List ℕ → List ℕ
chosen_of_eights size bytes blocks bits = xor_all size (chosen_from 0 (pieces size (8 * bytes) blocks) bits)

-- the first i bytes of each sum have what its word chooses added to them, and the others are as they were
pub record IsFront (size bytes : ℕ) (blocks words : List ℕ) (start : List (Vec ℕ Global)) (i : ℕ)
    (sums : List (Vec ℕ Global)) : Type 0 where
  pub within : i ≤ size
  pub count : length sums ≡ length start
  pub each : (k : ℕ) (d : Vec ℕ Global) → k < length start →
      (slice_index_or sums k d).items
      ≡ xor_front i (slice_index_or start k d).items
      (chosen_of_eights size bytes blocks (bytes_of bytes (slice_index words k)))
