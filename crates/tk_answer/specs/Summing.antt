-- Sums that are made some blocks at a time.
use Rattle.std.specs.Prelude.{◌≡◌, ℕ, ◌<◌, ◌≤◌, List, length, drop, slice_index_or, Vec}
use Rattle.std.specs.Global.{Global}
use Rattle.tk_kernel.specs.Xor.{xor_bytes, xor_all}
use Rattle.tk_kernel.specs.Chosen.{chosen_from, chosen_sum}

-- out with what the vector chooses of the blocks from number done on is the whole sum
pub record IsSumming (width : ℕ) (blocks : List (List ℕ)) (vector : List ℕ) (done : ℕ) (out : List ℕ) : Type 0 where
  pub within : done ≤ length blocks
  pub long : length out ≡ width
  pub sum : xor_bytes out (xor_all width (chosen_from done (drop done blocks) vector)) ≡ chosen_sum width blocks vector

-- so is each of these sums, by its own vector
pub record AreSumming (width : ℕ) (blocks : List (List ℕ)) (vectors : List (Vec ℕ Global)) (done : ℕ) (sums : List (Vec ℕ Global)) : Type 0 where
  pub count : length sums ≡ length vectors
  pub each : (k : ℕ) (d e : Vec ℕ Global) → k < length sums →
      IsSumming width blocks (slice_index_or vectors k e).items done (slice_index_or sums k d).items
