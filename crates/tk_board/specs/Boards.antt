-- What callers see of a board's ends, and what each end holds.
use Rattle.std.specs.Prelude.{◌≡◌, ◌⊎◌, ℕ, Bool, Option, Some, All, List, [], ◌∷◌, ◌++◌, length, slice_get}
use mathlib.Core.List.{IsPrefix}
use mathlib.Core.Option.{some}
use lib.ListN.{get_elem?}
use Rattle.atomic_table.specs.Perched.{Roost}
use Rattle.atomic_table.specs.Seated.{TableId}
use Rattle.atomic_table.specs.declared.shared.Seat.{Seat}
use Rattle.tk_board.specs.declared.rule.View.{View}
use Rattle.tk_board.specs.Rules.{Ends, claimed, noted, drafting}

-- which board it is, and the list that is known
pub record Known (M : Type 0) : Type 0 where
  pub board : TableId
  pub list : List M

module _ {M : Type 0} where
  -- the list ends with x
  abbrev pub IsLast : List M → M → Type 0
  IsLast xs x = (front : List M) × (xs ≡ front ++ x ∷ [])

  -- each value of the list may stand where it stands
  abbrev pub AllFit : (ℕ → M → Type 0) → List M → Type 0
  AllFit fits xs = (k : ℕ) (x : M) → slice_get xs k ≡ Some x → fits k x

  -- of the list that was known and the one that was told, the longer, which the other begins
  pub record GrowsTo (known told new : List M) : Type 0 where
    pub mine : IsPrefix known new
    pub theirs : IsPrefix told new
    pub one : (new ≡ known) ⊎ (new ≡ told)

  -- on the same board a list that goes on from the one that was known
  pub record GoesOn (a b : Known M) : Type 0 where
    pub board : b.board ≡ a.board
    pub list : IsPrefix a.list b.list

  -- on the same board the longer of the list that was known and the one that was told
  pub record Learns (a told b : Known M) : Type 0 where
    pub board : b.board ≡ a.board
    pub list : GrowsTo a.list told.list b.list

  -- the list begins with what each of these readers knows
  pub record AllBegin (readers : List (Known M)) (list : List M) : Type 0 where
    pub each : All (λ k. IsPrefix k.list list) readers

-- what the publisher's seat knows: the board, the shown list, the next one if it is planned, and
-- whether a claim of that is out
pub record Book (M : Type 0) : Type 0 where
  pub board : TableId
  pub list : List M
  pub plan : List M
  pub out : Bool

abbrev pub book : {M : Type 0} → TableId → List M → List M → Bool → Book M
book board list plan out = record { board = board; list = list; plan = plan; out = out }

-- a value that ends the list, with claims of it alone
pub record IsShown {T M : Type 0} (meaning : T → M) (number : ℕ) (value : T)
    (like : Roost (View M)) (claims : List (Roost (View M))) : Type 0 where
  pub is : like.view ≡ claimed like.view.seen
  pub ends : Ends like.view.seen number (meaning value)
  pub alike : All (λ p. (p.table_id ≡ like.table_id) × (p.view ≡ like.view)) claims

module _ {M : Type 0} where
  -- k was on the board of x, and its list begins that of x
  abbrev pub Before : Known M → Known M → Type 0
  Before x k = (k.board ≡ x.board) × IsPrefix k.list x.list

  abbrev pub AllBefore : Known M → List (Known M) → Type 0
  AllBefore x [] = Unit {0}
  AllBefore x (k ∷ ks) = Before x k × AllBefore x ks

  -- all that a seat of left_right saw was on the board of x, and its list begins that of x
  abbrev pub Leads : Known M → List (List (Known M)) → Type 0
  Leads x views =
      (seat : ℕ) (ks : List (Known M)) → get_elem? views seat ≡ some ks → AllBefore x ks

  -- a seat that had seen v sees x
  abbrev pub Saw : List (Known M) → Known M → List (Known M) → Type 0
  Saw v x w = AllBefore x v × (w ≡ x ∷ [])

  -- the last value that was seen is of this board
  abbrev pub Tied : TableId → List (Known M) → Type 0
  Tied board ks = (k : Known M) × (ks ≡ k ∷ []) × (k.board ≡ board)

abbrev pub none_seen : {K : Type 0} → List K
none_seen = []

module _ {T M : Type 0} where
  -- a reader's seat has seen the list that the value it holds ends
  pub record IsReader (board : TableId) (place : Seat (Option T) (View M))
      (held : Known M) : Type 0 where
    pub of_table : place.table_id ≡ board
    pub is : place.me ≡ (noted place.me.0.seen, [])
    pub of_board : held.board ≡ board
    pub same : held.list ≡ place.me.0.seen

  pub record IsTold (place : Seat (Option T) (View M)) (shown : Known M) : Type 0 where
    pub is : place.me ≡ (noted place.me.0.seen, [])
    pub of_board : shown.board ≡ place.table_id
    pub same : shown.list ≡ place.me.0.seen

  -- the publisher's seat has seen the whole list
  pub record IsLedger (board : TableId) (place : Seat (Option T) (View M))
      (count : ℕ) : Type 0 where
    pub of_table : place.table_id ≡ board
    pub is : place.me ≡ (drafting place.me.0.seen place.me.0.plan place.me.0.out, [])
    pub counted : count ≡ length place.me.0.seen

-- left_right shows the value that ends the list, and nothing waits to be shown
pub record IsStage {M P : Type 0} (board : TableId) (list : List M) (shown : Known M)
    (pending : List P) : Type 0 where
  pub of_board : shown.board ≡ board
  pub same : shown.list ≡ list
  pub none_pending : pending ≡ []
