-- The seats that entries stand under, and which lists of entries an order may be.
use Rattle.std.specs.Prelude.{◌≡◌, ℕ, ◌+◌, ◌<◌, ◌≤◌, ◌==◌, List, [], ◌∷◌, ◌++◌, length, filter}
use Rattle.tk_shape.specs.declared.shape.Shape.{Shape}
use Rattle.tk_shape.specs.Lengths.{turn_count}
use Rattle.tk_frames.specs.declared.entry.Placed.{Placed}
use Rattle.tk_frames.specs.declared.entry.Entry.{Entry}
use Rattle.tk_frames.specs.declared.entry.Entry.TheVariants.{Write, Mark}
use Rattle.tk_frames.specs.Ranges.{IsEntry}
use Rattle.tk_frames.specs.InOrder.{IsOrder}

-- the number of the seat that an entry stands under
abbrev pub number_of : Entry → ℕ
number_of (Write w) = w.client + 1
number_of (Mark e) = 0

abbrev pub seat_of : Placed → ℕ
seat_of p = number_of p.entry

-- the entries under one number, in their order
abbrev pub of : ℕ → List Placed → List Placed
of n E = filter (λ p. seat_of p == n) E

-- Positions count from 1 and marks are numbered from 1, each entry is in range, and no client has
-- more writes than a run has turns.
pub record IsLegal (shape : Shape) (E : List Placed) : Type 0 where
  pub order : IsOrder shape E
  pub few : (n : ℕ) → 0 < n → length (of n E) ≤ turn_count shape

-- a seat that ordered these has a turn left for a write, and a mark has the next number
abbrev pub IsDue : Shape → List Placed → Entry → Type 0
IsDue shape own (Write w) = length own < turn_count shape
IsDue shape own (Mark e) = e ≡ length own + 1

-- an entry that a seat may order after those that it ordered
pub record MayFollow (shape : Shape) (own : List Placed) (e : Entry) : Type 0 where
  pub in_range : IsEntry shape e
  pub due : IsDue shape own e

-- a list with an entry after it
abbrev pub placed : List Placed → Entry → Placed
placed E e = record { position = length E + 1; entry = e }

abbrev pub with_entry : List Placed → Entry → List Placed
with_entry E e = E ++ placed E e ∷ []
