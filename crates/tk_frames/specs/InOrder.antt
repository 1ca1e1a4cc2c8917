-- Lists of entries that an order may be, and where its marks stand.
use Rattle.std.specs.Prelude.{◌≡◌, ℕ, ◌+◌, cond, List, [], ◌∷◌, length, count_by}
use Rattle.tk_shape.specs.declared.shape.Shape.{Shape}
use Rattle.tk_frames.specs.declared.entry.Placed.{Placed}
use Rattle.tk_frames.specs.declared.entry.Entry.{Entry}
use Rattle.tk_frames.specs.declared.entry.Entry.TheVariants.{Write, Mark}
use Rattle.tk_frames.specs.Order.{is_mark_of, is_mark_entry}
use Rattle.tk_frames.specs.Ranges.{IsPlaced}

-- how many marks stand among entries
abbrev pub mark_count : List Placed → ℕ
mark_count E = count_by is_mark_entry E

-- the position of mark e; 0 where there is none, as for epoch 0
abbrev pub mark_position : List Placed → ℕ → ℕ
mark_position [] e = 0
mark_position (p ∷ ps) e = cond (is_mark_of e p) p.position (mark_position ps e)

-- a mark has the number that is due
abbrev pub HasNumber : ℕ → Entry → Type 0
HasNumber due (Write w) = Unit {0}
HasNumber due (Mark e) = e ≡ due

-- the number that is due for a mark after an entry
abbrev pub number_after : ℕ → Entry → ℕ
number_after due (Write w) = due
number_after due (Mark e) = due + 1

-- an entry that may stand at a place, where this number is due for a mark
pub record IsNextAt (shape : Shape) (place due : ℕ) (p : Placed) : Type 0 where
  pub at : p.position ≡ place
  pub in_range : IsPlaced shape p
  pub number : HasNumber due p.entry

-- entries whose positions and marks count on from a place and a number, each in range
abbrev pub IsOrderFrom : Shape → ℕ → ℕ → List Placed → Type 0
IsOrderFrom shape place due [] = Unit {0}
IsOrderFrom shape place due (p ∷ ps) =
    IsNextAt shape place due p × IsOrderFrom shape (place + 1) (number_after due p.entry) ps

-- Entries in order: positions count from 1, marks are numbered from 1 in order, and each entry is
-- in the ranges of the shape.
abbrev pub IsOrder : Shape → List Placed → Type 0
IsOrder shape E = IsOrderFrom shape 1 1 E

-- an entry that may stand next after these
abbrev pub IsNext : Shape → List Placed → Placed → Type 0
IsNext shape E p = IsNextAt shape (length E + 1) (mark_count E + 1) p
