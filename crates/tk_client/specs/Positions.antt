-- Filter positions that are kept: where they come from, and that they are right.
use Rattle.std.specs.Prelude.{◌≡◌, ℕ, take, Option, Some, None}
use Rattle.tk_shape.specs.declared.shape.Shape.{Shape}
use Rattle.tk_words.specs.Words.{WordBook, hits_of, hits_under}
use Rattle.tk_client.specs.declared.positions.Origin.{Origin}
use Rattle.tk_client.specs.declared.positions.NumberPositions.{NumberPositions}

-- the first of these are the positions of the number, as they come from there
abbrev pub IsSpotOf : Origin → NumberPositions → Type 0
IsSpotOf o spot = take o.hits spot.hits ≡ hits_under o.bits o.hits o.seed spot.number

-- what may be kept of positions that come from there; nothing where they come from nowhere
abbrev pub IsKept : Option Origin → Option NumberPositions → Type 0
IsKept o None = Unit {0}
IsKept None (Some spot) = ⊥
IsKept (Some o) (Some spot) = IsSpotOf o spot

-- the positions that a book has for a log's numbers come from there
pub record IsOrigin (shape : Shape) (b : WordBook) (log : ℕ) (o : Origin) : Type 0 where
  pub hits : o.hits ≡ shape.hits
  pub each : (s : ℕ) → hits_of shape b log s ≡ hits_under o.bits o.hits o.seed s

abbrev pub IsOriginOrNone : Shape → WordBook → ℕ → Option Origin → Type 0
IsOriginOrNone shape b log None = Unit {0}
IsOriginOrNone shape b log (Some o) = IsOrigin shape b log o

abbrev pub IsOriginOf : Shape → WordBook → ℕ → Option Origin → Type 0
IsOriginOf shape b log None = ⊥
IsOriginOf shape b log (Some o) = IsOrigin shape b log o
