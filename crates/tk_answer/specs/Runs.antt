-- Blocks that lie one after the other.
use Rattle.std.specs.Prelude.{◌≡◌, ℕ, ◌+◌, ◌*◌, ◌<◌, ◌≤◌, List, length, take, drop}
use Rattle.std.specs.List.{concat}
use Rattle.tk_kernel.specs.Pieces.{all_pieces}

-- The bytes are whole blocks from number i on, in their order: one at least, and however many more.
pub record IsRun (blocks : List (List ℕ)) (i : ℕ) (bytes : List ℕ) : Type 0 where
  pub count : ℕ
  pub some : 0 < count
  pub within : i + count ≤ length blocks
  pub joined : bytes ≡ concat (take count (drop i blocks))

-- where blocks lie in one slice, a part of it from a block's first byte to a block's last is a run
abbrev pub PartsAreRuns : Type 0
PartsAreRuns =
    (width i count : ℕ) (bytes : List ℕ) → 0 < width → 0 < count → (i + count) * width ≤ length bytes
    → IsRun (all_pieces width bytes) i (take (count * width) (drop (i * width) bytes))
