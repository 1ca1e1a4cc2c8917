-- Which epochs are kept, as entries are applied and epochs released, one after the other.
use Rattle.std.specs.Prelude.{ℕ, ◌+◌, ◌-◌, List, [], ◌∷◌, ◌++◌, drop, map, filter_map, Option, Some, None}
use Rattle.std.specs.List.{range_with_len}
use Rattle.tk_frames.specs.declared.entry.Placed.{Placed}
use Rattle.tk_frames.specs.declared.entry.Entry.{Entry}
use Rattle.tk_frames.specs.declared.entry.Entry.TheVariants.{Write, Mark}
use Rattle.tk_replica.specs.Replica.{ReplicaView}
use Rattle.tk_replica.specs.Shelf.{IsHeld}

-- an entry is applied, or the epochs below a number are released
pub data Change : Type 0 where
  Applied : Placed → Change
  Released : ℕ → Change

-- the last epoch, the first that is kept, and the numbers of all that are kept
pub record Numbers : Type 0 where
  pub last : ℕ
  pub floor : ℕ
  pub kept : List ℕ

-- those of a state
abbrev pub numbers_of : ReplicaView → Numbers
numbers_of s = record { last = s.last; floor = s.floor; kept = map (λ e. e.number) s.kept }

-- all from the floor to the last are kept
abbrev pub spanning : ℕ → ℕ → Numbers
spanning floor last =
    record { last = last; floor = floor; kept = range_with_len floor (last + 1 - floor) }

-- before any entry epoch 0 is kept
abbrev pub opening : Numbers
opening = record { last = 0; floor = 0; kept = 0 ∷ [] }

-- a mark puts its number after the others
abbrev pub numbers_with : Numbers → Entry → Numbers
numbers_with n (Write w) = n
numbers_with n (Mark e) = record { last = e; floor = n.floor; kept = n.kept ++ e ∷ [] }

-- a release drops as many as there are below the number
abbrev pub numbers_behind : Numbers → Change → Numbers
numbers_behind n (Applied p) = numbers_with n p.entry
numbers_behind n (Released e) =
    record { last = n.last; floor = e; kept = drop (e - n.floor) n.kept }

unfoldable pub numbers_after : Numbers → List Change → Numbers
numbers_after n [] = n
numbers_after n (x ∷ xs) = numbers_after (numbers_behind n x) xs

-- the entries that were applied
abbrev pub entry_of : Change → Option Placed
entry_of (Applied p) = Some p
entry_of (Released e) = None

abbrev pub entries : List Change → List Placed
entries xs = filter_map entry_of xs

-- the number that was released last; where there is none, this one
abbrev pub last_released : ℕ → List Change → ℕ
last_released e [] = e
last_released e (Applied p ∷ xs) = last_released e xs
last_released e (Released n ∷ xs) = last_released n xs

-- only the number of an epoch that is kept may be released
abbrev pub MayCome : Numbers → Change → Type 0
MayCome n (Applied p) = Unit {0}
MayCome n (Released e) = IsHeld n.floor n.last e

unfoldable pub MayAllCome : Numbers → List Change → Type 0
MayAllCome n [] = Unit {0}
MayAllCome n (x ∷ xs) = MayCome n x × MayAllCome (numbers_behind n x) xs
