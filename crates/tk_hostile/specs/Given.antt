-- Sums for replies, as far as they are chosen.
use Rattle.std.specs.Prelude.{◌≡◌, ℕ, ◌+◌, ◌-◌, ◌*◌, ◌==◌, nat_lt, nat_le, ◌&&◌, Bool, cond}
use Rattle.std.specs.Prelude.{List, length, replicate, slice_index_or, Option, Some, None, All, IfSome}
use Rattle.tk_shape.specs.declared.shape.Shape.{Shape}
use Rattle.tk_shape.specs.Lengths.{turn_count, width}
use Rattle.tk_hostile.specs.Choice.{Choice}
use Rattle.tk_hostile.specs.declared.sums.Sums.{Sums}

-- a sum for either bucket
pub record AreSums (shape : Shape) (sums : Sums) : Type 0 where
  pub first : length sums.first ≡ width shape
  pub second : length sums.second ≡ width shape

-- ---- choices

abbrev pub zero_sums : Shape → Sums
zero_sums shape =
    record { first = replicate (width shape) 0; second = replicate (width shape) 0 }

-- none are chosen
abbrev pub none_chosen : Shape → Choice
none_chosen shape g c j = zero_sums shape

-- the same choice but with these sums for a turn, a client and a server
abbrev pub with_sums : ℕ → ℕ → ℕ → Sums → Choice → Choice
with_sums g c j sums F g' c' j' = cond (g' == g && c' == c && j' == j) sums (F g' c' j')

-- ---- sums in a list

-- a shape, and those of each of its turns, clients and servers that have any
pub record Given : Type 0 where
  pub shape : Shape
  pub list : List (Option Sums)

-- how many there may be
abbrev pub given_count : Shape → ℕ
given_count shape = turn_count shape * shape.clients * shape.servers

-- whether there is such a turn, client and server
abbrev pub is_in : Shape → ℕ → ℕ → ℕ → Bool
is_in shape g c j =
    nat_lt g (turn_count shape) && nat_lt c shape.clients && nat_le 1 j && nat_le j shape.servers

-- the place of theirs
abbrev pub place_of : Shape → ℕ → ℕ → ℕ → ℕ
place_of shape g c j = (g * shape.clients + c) * shape.servers + (j - 1)

abbrev pub sums_or_zeros : Shape → Option Sums → Sums
sums_or_zeros shape None = zero_sums shape
sums_or_zeros shape (Some sums) = sums

abbrev pub listed : Shape → List (Option Sums) → Choice
listed shape list g c j =
    cond (is_in shape g c j)
    (sums_or_zeros shape (slice_index_or list (place_of shape g c j) None)) (zero_sums shape)

-- the sums with which servers reply: zeros where there are none
abbrev pub sums_at : Given → Choice
sums_at given = listed given.shape given.list

-- a list of sums of a shape
pub record AreListed (shape : Shape) (list : List (Option Sums)) : Type 0 where
  pub counted : length list ≡ given_count shape
  pub sized : All (λ o. IfSome o (AreSums shape)) list
