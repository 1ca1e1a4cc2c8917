-- What a window keeps of the pushes.
use Rattle.std.specs.Prelude.{◌≡◌, ℕ, ◌-◌, ◌*◌, ◌%◌, ◌<◌, ◌≤◌, List, length, drop, All}
use Rattle.tk_kernel.specs.Pieces.{all_pieces, AllSized}
use Rattle.tk_bloom.specs.Counts.{Counted}

-- the last n of a list, or all where there are fewer
abbrev pub window : {X : Type 0} → ℕ → List X → List X
window n xs = drop (length xs - n) xs

-- the bits of a filter, the positions of a push, how many pushes are kept at most, and those that are, oldest first
pub record Kept : Type 0 where
  pub bits : ℕ
  pub hits : ℕ
  pub retained : ℕ
  pub pushes : List (List ℕ)

-- the pushes that lie one after the other in a list of positions
abbrev pub pushes_in : ℕ → List ℕ → List (List ℕ)
pushes_in hits positions = all_pieces hits positions

-- the positions are those of whole pushes, of as many as are retained at most
pub record HoldsPushes (hits retained : ℕ) (tally : Counted) : Type 0 where
  pub some_hits : 1 ≤ hits
  pub most_hits : hits ≤ 4
  pub some_retained : 1 ≤ retained
  pub most_retained : retained ≤ 131072
  pub room_for_all : tally.room ≡ hits * retained
  pub within : length tally.positions ≤ hits * retained
  pub whole : length tally.positions % hits ≡ 0
  pub in_range : All (λ h. h < tally.bits) tally.positions

-- the pushes of a window have one size, which is in range, and so is how many there are
pub record IsSized (w : Kept) : Type 0 where
  pub some_hits : 1 ≤ w.hits
  pub most_hits : w.hits ≤ 4
  pub few : length w.pushes ≤ w.retained
  pub most_retained : w.retained ≤ 131072
  pub each : AllSized w.hits w.pushes
