-- The rule of an order's table, and what its steps tell.
use Rattle.std.specs.Prelude.{◌≡◌, ℕ, ◌<◌, ◌≤◌, ◌==◌, ◌⊎◌, Bool, true, false, List, [], ◌∷◌, ◌++◌, length}
use mathlib.Core.Option.{Option, none, some}
use mathlib.Core.List.{IsPrefix}
use lib.ListN.{get_elem?}
use Rattle.atomic_table.specs.Table.{State, Me, Step}
use Rattle.tk_shape.specs.declared.shape.Shape.{Shape}
use Rattle.tk_frames.specs.declared.entry.Placed.{Placed}
use Rattle.tk_order.specs.declared.rule.View.{View}
use Rattle.tk_order.specs.Legality.{seat_of, of, IsLegal, MayFollow}

-- a number that a view has, with the entries under it
abbrev pub Claim : Type 0
Claim = ℕ × List Placed

abbrev pub view : List Placed → List Placed → List Claim → View
view seen told claims = record { seen = seen; told = told; claims = claims }

abbrev pub blank_view : View
blank_view = view [] [] []

-- a view without numbers that has seen as much
abbrev pub note_of : View → View
note_of v = view v.seen [] []

-- a view that was told what another has seen
abbrev pub informed : View → View → View
informed v w = view v.seen w.seen v.claims

-- and took its numbers
abbrev pub gathered : View → View → View
gathered v w = view v.seen w.seen (v.claims ++ w.claims)

-- under each number that is claimed, the list has the entries that are claimed
abbrev pub Owned : List Placed → List Claim → Type 0
Owned log [] = Unit {0}
Owned log (c ∷ cs) = (of c.0 log ≡ c.1) × Owned log cs

-- the number is one of those claimed
abbrev pub Holds : ℕ → List Claim → Type 0
Holds n [] = ⊥
Holds n (c ∷ cs) = (c.0 ≡ n) ⊎ Holds n cs

-- What a view has seen and was told begins the list. The list has no entries under its numbers but
-- those that it claims, and each number was drawn and is its own.
pub record Fits (log : List Placed) (drawn : ℕ) (owner : ℕ → ℕ) (seat : ℕ) (v : View) : Type 0 where
  pub seen : IsPrefix v.seen log
  pub told : IsPrefix v.told log
  pub owned : Owned log v.claims
  pub mine : (n : ℕ) → Holds n v.claims → (n < drawn) × (owner n ≡ seat)

-- The rule: there is one list as long as word 0, word 1 counts the numbers drawn, and each view
-- fits.
pub record Kept (shape : Shape) (s : State Placed View) : Type 0 where
  pub log : List Placed
  pub drawn : ℕ
  pub owner : ℕ → ℕ
  pub words : s.words ≡ length log ∷ drawn ∷ []
  pub legal : IsLegal shape log
  pub named : (n : ℕ) → drawn ≤ n → of n log ≡ []
  pub fits : (j : ℕ) (v : View) → get_elem? s.views j ≡ some v → Fits log drawn owner j v

-- the whole list was seen, with so many entries
pub record Sees (shape : Shape) (v : View) (found : ℕ) (w : View) : Type 0 where
  pub seen : IsPrefix v.seen w.seen
  pub told : IsPrefix v.told w.seen
  pub count : length w.seen ≡ found
  pub claims : w.claims ≡ v.claims
  pub owned : Owned w.seen w.claims
  pub legal : IsLegal shape w.seen

abbrev pub Looked : Shape → Step Placed → Me Placed View → ℕ → Me Placed View → Type 0
Looked shape st m found m' = Sees shape m.0 found m'.0 × (m'.1 ≡ m.1)

-- the longer of the list that was seen and the one that was told is seen
pub record Joins (v w : View) : Type 0 where
  pub seen : IsPrefix v.seen w.seen
  pub told : IsPrefix v.told w.seen
  pub one : (w.seen ≡ v.seen) ⊎ (w.seen ≡ v.told)
  pub claims : w.claims ≡ v.claims
  pub owned : Owned v.seen v.claims → Owned w.seen v.claims

abbrev pub Met : Step Placed → Me Placed View → ℕ → Me Placed View → Type 0
Met st m found m' = Joins m.0 m'.0 × (m'.1 ≡ m.1)

-- an entry more under each number that is claimed
abbrev pub added : Placed → List Claim → List Claim
added p [] = []
added p (c ∷ cs) = (c.0, c.1 ++ p ∷ []) ∷ added p cs

-- the entry was put after the whole list
pub record AppendsTo (shape : Shape) (v : View) (p : Placed) (found : ℕ) (w : View) : Type 0 where
  pub log : List Placed
  pub count : length log ≡ found
  pub seen : IsPrefix v.seen log
  pub told : IsPrefix v.told log
  pub before : Owned log v.claims
  pub after : w.seen ≡ log ++ p ∷ []
  pub claims : w.claims ≡ added p v.claims
  pub owned : Owned w.seen w.claims
  pub legal : IsLegal shape w.seen

-- an append where the list is as long as was thought, and else a look
abbrev pub Appends : Bool → Shape → View → Option Placed → ℕ → View → Type 0
Appends true shape v (some p) found w = AppendsTo shape v p found w
Appends true shape v none found w = Unit {0}
Appends false shape v said found w = Sees shape v found w

abbrev pub Appended : Shape → Step Placed → Me Placed View → ℕ → Me Placed View → Type 0
Appended shape st m found m' =
    Appends (found == st.first) shape m.0 st.said found m'.0 × (m'.1 ≡ m.1)

-- the number that was due, under which nothing stands
abbrev pub DrawsIf : Bool → View → ℕ → View → Type 0
DrawsIf true v found w = (w ≡ view v.seen v.told ((found, []) ∷ [])) × (of found v.seen ≡ [])
DrawsIf false v found w = w ≡ v

abbrev pub Drew : Step Placed → Me Placed View → ℕ → Me Placed View → Type 0
Drew st m found m' = DrawsIf (found == st.first) m.0 found m'.0 × (m'.1 ≡ m.1)

-- the view has just the number that the entry stands under, and may order the entry next
pub record MayAppend (shape : Shape) (v : View) (p : Placed) : Type 0 where
  pub own : List Placed
  pub claims : v.claims ≡ (seat_of p, own) ∷ []
  pub may : MayFollow shape own p.entry
