-- What the epochs that are kept are seen as.
use Rattle.std.specs.Prelude.{◌≡◌, ℕ, ◌+◌, ◌≤◌, List, length}
use Rattle.tk_replica.specs.declared.epoch.Epoch.{Epoch}

-- the first number, the last, and the epochs from the first to the last
pub record Shelved : Type 0 where
  pub floor : ℕ
  pub last : ℕ
  pub epochs : List Epoch

-- there is an epoch for each number
pub record IsShelf (floor last : ℕ) (epochs : List Epoch) : Type 0 where
  pub counted : floor + length epochs ≡ last + 1
  pub some : floor ≤ last

-- an epoch's number is among them
pub record IsHeld (floor last e : ℕ) : Type 0 where
  pub low : floor ≤ e
  pub high : e ≤ last
