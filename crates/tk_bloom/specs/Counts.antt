-- Positions that are counted.
use Rattle.std.specs.Prelude.{◌≡◌, ℕ, ◌<◌, ◌^◌, ◌==◌, List, length, slice_index, count_by, All}

-- below what the positions are, how many of them there may be, and those that there are, in their order
pub record Counted : Type 0 where
  pub bits : ℕ
  pub room : ℕ
  pub positions : List ℕ

-- how often a position occurs
abbrev pub count_of : List ℕ → ℕ → ℕ
count_of positions h = count_by (λ k. h == k) positions

-- the counts are those of the positions, and of as many as there is room for each count fits a word
pub record AreCounts (counts positions : List ℕ) (room : ℕ) : Type 0 where
  pub below : All (λ h. h < length counts) positions
  pub counted : (h : ℕ) → h < length counts → slice_index counts h ≡ count_of positions h
  pub countable : room < 2 ^ 32
