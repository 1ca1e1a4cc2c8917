-- Positions in one run, of which the first ones have gone.
use Rattle.std.specs.Prelude.{ℕ, ◌-◌, ◌<◌, ◌≤◌, List}

-- for how many positions there is room, and those that there are, in their order
pub record Queued : Type 0 where
  pub room : ℕ
  pub positions : List ℕ

-- A run of count positions, of which those before the start have gone. It has at most `most`, for which there
-- is memory, and which are more than the room for those that are left.
pub record IsQueue (start room most count capacity : ℕ) : Type 0 where
  pub gone : start ≤ count
  pub few : count - start ≤ room
  pub within : count ≤ most
  pub longer : room < most
  pub space : most ≤ capacity
