-- How a reader looks for what it reads next.
use Rattle.std.specs.Prelude.{◌<◌, ◌≤◌, ℕ, nat_lt, Bool, ◌&&◌, cond, All, List, map, Option, Some, None}
use Rattle.tk_shape.specs.declared.shape.Shape.{Shape}
use Rattle.tk_shape.specs.Lengths.{turn_count}
use Rattle.tk_client.specs.Reader.{Follow, Target, untried}

-- the logs that a reader follows are below this one
abbrev pub AreBelow : ℕ → List Follow → Type 0
AreBelow logs follows = All (λ f. f.log < logs) follows

-- whether a number is one that a log may have, and is shown
abbrev pub is_wanted : Shape → (ℕ → ℕ → Bool) → ℕ → ℕ → Bool
is_wanted shape shown log number = nat_lt number (turn_count shape) && shown log number

-- one log, and all of them, where a new epoch may show what the last one did not
abbrev pub follow_anew : Bool → Follow → Follow
follow_anew anew f = cond anew (untried f) f

abbrev pub follows_anew : Bool → List Follow → List Follow
follows_anew anew follows = cond anew (map untried follows) follows

-- a target is a number that a log may have, of a log at a place among so many
pub record IsTarget (shape : Shape) (count : ℕ) (t : Target) : Type 0 where
  pub place : t.place < count
  pub log : t.log < shape.logs
  pub number : t.number < turn_count shape
  pub ahead : t.ahead ≤ shape.ahead

abbrev pub IsTargetOrNone : Shape → ℕ → Option Target → Type 0
IsTargetOrNone shape count None = Unit {0}
IsTargetOrNone shape count (Some t) = IsTarget shape count t
