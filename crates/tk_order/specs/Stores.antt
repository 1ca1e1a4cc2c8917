-- What lies under an order's lock.
use Rattle.std.specs.Prelude.{◌≡◌, List, [], ◌∷◌, ◌++◌}
use mathlib.Core.List.{IsPrefix}
use Rattle.atomic_table.specs.Seated.{TableId}
use Rattle.atomic_table.specs.declared.shared.Seat.{Seat}
use Rattle.tk_shape.specs.declared.shape.Shape.{Shape}
use Rattle.tk_frames.specs.declared.entry.Placed.{Placed}
use Rattle.tk_order.specs.declared.rule.View.{View}
use Rattle.tk_order.specs.Legality.{IsLegal}
use Rattle.tk_order.specs.Rules.{Claim}
use Rattle.tk_order.specs.Seats.{Seated, claims_of}

-- the seat of the lock has seen just the list that is stored
pub record IsStored (table : TableId) (shape : Shape) (place : Seat Placed View)
    (entries : List Placed) : Type 0 where
  pub of_table : place.table_id ≡ table
  pub free : place.me.1 ≡ []
  pub seen : place.me.0.seen ≡ entries
  pub claims : place.me.0.claims ≡ []
  pub legal : IsLegal shape entries

-- the numbers of these seats, with the entries under each
abbrev pub all_claims : List Seated → List Claim
all_claims [] = []
all_claims (s ∷ ss) = claims_of s.number s.seen ++ all_claims ss

-- each of these seats has seen no more than this list
abbrev pub AllBegin : List Seated → List Placed → Type 0
AllBegin [] log = Unit {0}
AllBegin (s ∷ ss) log = IsPrefix s.seen log × AllBegin ss log

-- the seat took in all these seats, and has seen what each had seen and the entries that are stored
pub record Gathering (table : TableId) (entries : List Placed) (seats : List Seated)
    (place : Seat Placed View) : Type 0 where
  pub of_table : place.table_id ≡ table
  pub free : place.me.1 ≡ []
  pub stored : IsPrefix entries place.me.0.seen
  pub begin : AllBegin seats place.me.0.seen
  pub claims : place.me.0.claims ≡ all_claims seats
