-- What callers see of a seat, and how its list grows.
use Rattle.std.specs.Prelude.{◌≡◌, ℕ, zero, suc, ◌⊎◌, Option, Some, None, List, [], ◌∷◌, ◌++◌, length, slice_get}
use mathlib.Core.List.{IsPrefix}
use Rattle.atomic_table.specs.Seated.{TableId}
use Rattle.atomic_table.specs.declared.shared.Seat.{Seat}
use Rattle.tk_shape.specs.declared.shape.Shape.{Shape}
use Rattle.tk_frames.specs.declared.entry.Entry.{Entry}
use Rattle.tk_frames.specs.declared.entry.Placed.{Placed}
use Rattle.tk_order.specs.declared.rule.View.{View}
use Rattle.tk_order.specs.Legality.{of, IsLegal, placed, with_entry}
use Rattle.tk_order.specs.Rules.{Claim}

-- the list that a seat has seen, and its number
pub record Seated : Type 0 where
  pub seen : List Placed
  pub number : Option ℕ

abbrev pub seated : List Placed → Option ℕ → Seated
seated seen number = record { seen = seen; number = number }

-- the entries under a seat's number; a seat without one has none
abbrev pub own_in : Option ℕ → List Placed → List Placed
own_in None E = []
own_in (Some n) E = of n E

-- the entries that a seat ordered
abbrev pub own : Seated → List Placed
own s = own_in s.number s.seen

-- the numbers that a seat's view has, with the entries under each
abbrev pub claims_of : Option ℕ → List Placed → List Claim
claims_of None E = []
claims_of (Some n) E = (n, of n E) ∷ []

pub record IsSeat (table : TableId) (shape : Shape) (place : Seat Placed View)
    (count : ℕ) (number : Option ℕ) (ordered : ℕ) : Type 0 where
  pub of_table : place.table_id ≡ table
  pub free : place.me.1 ≡ []
  pub claims : place.me.0.claims ≡ claims_of number place.me.0.seen
  pub counted : count ≡ length place.me.0.seen
  pub made : ordered ≡ length (own_in number place.me.0.seen)
  pub legal : IsLegal shape place.me.0.seen

-- the same seat, which may have seen more, and ordered nothing
pub record SeesMore (a b : Seated) : Type 0 where
  pub number : b.number ≡ a.number
  pub seen : IsPrefix a.seen b.seen
  pub own : own b ≡ own a

-- the same seat, which ordered the entry after `stored`
pub record Puts (a : Seated) (stored : List Placed) (e : Entry) (b : Seated) : Type 0 where
  pub number : b.number ≡ a.number
  pub seen : IsPrefix a.seen stored
  pub after : b.seen ≡ with_entry stored e
  pub own : own b ≡ own a ++ placed stored e ∷ []

-- the same seat, which ordered the entry, and the entry stands last in its list
pub record Ordered (a : Seated) (e : Entry) (b : Seated) : Type 0 where
  pub before : List Placed
  pub puts : Puts a before e b

-- the same seat, which has seen what both had, and no more
pub record Meets (a other b : Seated) : Type 0 where
  pub number : b.number ≡ a.number
  pub mine : IsPrefix a.seen b.seen
  pub theirs : IsPrefix other.seen b.seen
  pub one : (b.seen ≡ a.seen) ⊎ (b.seen ≡ other.seen)
  pub own : own b ≡ own a

-- two lists begin one list
pub record BeginOne (E F : List Placed) : Type 0 where
  pub whole : List Placed
  pub one : IsPrefix E whole
  pub two : IsPrefix F whole

-- the seats of a new order, by number
abbrev pub opened : ℕ → List Seated
opened zero = []
opened (suc k) = opened k ++ seated [] (Some k) ∷ []

-- What each of these seats had seen begins the list, which has no entries under a seat's number but
-- those that this seat ordered.
abbrev pub IsWhole : List Seated → List Placed → Type 0
IsWhole seats E =
    (k : ℕ) (s : Seated) → slice_get seats k ≡ Some s →
    IsPrefix s.seen E × (own_in s.number E ≡ own s)

-- what a blank is for: the table, the shape, and how many seats
pub record Opening : Type 0 where
  pub table : TableId
  pub shape : Shape
  pub seats : ℕ
