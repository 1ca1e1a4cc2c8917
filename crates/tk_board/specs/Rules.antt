-- The rule of a board's table, and what its steps tell.
use Rattle.std.specs.Prelude.{◌≡◌, ℕ, ◌<◌, ◌≤◌, ◌⊎◌, Bool, true, false, Option, Some, None, List}
use Rattle.std.specs.Prelude.{[], ◌∷◌, ◌++◌, length, slice_index}
use mathlib.Core.Option as maybe
use mathlib.Core.Option.{some, none}
use mathlib.Core.List.{IsPrefix}
use lib.ListN.{get_elem?}
use Rattle.atomic_table.specs.Table.{State, Me, Step}
use Rattle.tk_board.specs.declared.rule.View.{View}

module _ {M : Type 0} where
  -- the list ends with x, and has n values
  abbrev pub Ends : List M → ℕ → M → Type 0
  Ends xs n x = (front : List M) × (xs ≡ front ++ x ∷ []) × (length xs ≡ n)

  -- a seat that has seen this list
  abbrev pub noted : List M → View M
  noted seen = record { seen = seen; told = []; plan = []; shows = false; out = false; sure = true }

  -- a seat that claims this list
  abbrev pub claimed : List M → View M
  claimed seen = record {
    seen = seen;
    told = [];
    plan = [];
    shows = false;
    out = false;
    sure =
        false;
  }

  -- the publisher's seat, which knows the whole list, with a plan, and a claim of it that is out
  abbrev pub drafting : List M → List M → Bool → View M
  drafting seen plan out = record
      { seen = seen; told = []; plan = plan; shows = true; out = out; sure = true }

  abbrev pub whole : List M → View M
  whole seen = drafting seen [] false

  abbrev pub sent_out : View M → View M
  sent_out v = record v { out = true }

  abbrev pub given_up : View M → View M
  given_up v = record v { plan = []; out = false }

  abbrev pub first_view : View M
  first_view = whole []

  abbrev pub blank : View M
  blank = noted []

  abbrev pub informed : View M → View M → View M
  informed v w = record v { told = w.seen }

  pub record Fits (list plan : List M) (out : Bool) (publisher draft seat : ℕ) (v : View M) : Type 0
    where
      pub seen : v.sure ≡ true → IsPrefix v.seen list
      pub claim : v.sure ≡ false → (IsPrefix v.seen list)
          ⊎ ((out ≡ true) × (seat ≡ draft) × (v.seen ≡ plan))
      pub told : IsPrefix v.told list
      pub shows : v.shows ≡ true → (v.seen ≡ list) × (seat ≡ publisher) × (v.plan ≡ plan)
          × (v.out ≡ out)

  -- the longer of the list that was seen and the one that was told is seen
  pub record Joins (v w : View M) : Type 0 where
    pub seen : IsPrefix v.seen w.seen
    pub told : IsPrefix v.told w.seen
    pub one : (w.seen ≡ v.seen) ⊎ (w.seen ≡ v.told)
    pub same : v.shows ≡ true → w.seen ≡ v.seen
    pub is : w ≡ record v { seen = w.seen; told = [] }

abbrev pub Sat : Type 0 → Type 0 → Type 0
Sat T M = Me (Option T) (View M)

abbrev pub At : Type 0 → Type 0
At T = Step (Option T)

module _ {T M : Type 0} where
  -- The rule: there is one shown list, as long as word 0 says, and what seats are sure of begins
  -- it. A claim does too, or is the one of the plan that is out.
  pub record Kept (s : State (Option T) (View M)) : Type 0 where
    pub list : List M
    pub plan : List M
    pub out : Bool
    pub publisher : ℕ
    pub draft : ℕ
    pub wide : 0 < length s.words
    pub count : slice_index s.words 0 ≡ length list
    pub longer : out ≡ true → length list < length plan
    pub fits : (j : ℕ) (v : View M) → get_elem? s.views j ≡ some v
        → Fits list plan out publisher draft j v

  abbrev pub MeaningOf : (T → M) → maybe.Option (Option T) → M → Type 0
  MeaningOf meaning none m = ⊥
  MeaningOf meaning (some None) m = ⊥
  MeaningOf meaning (some (Some y)) m = meaning y ≡ m

  abbrev pub Proposed : (T → M) → At T → Sat T M → ℕ → Sat T M → Type 0
  Proposed meaning st m found m' = (x : M) → MeaningOf meaning st.said x
      → m' ≡ (record m.0 { plan = m.0.seen ++ x ∷ [] }, m.1)

  abbrev pub Extended : At T → Sat T M → ℕ → Sat T M → Type 0
  Extended st m found m' = m' ≡ (whole m.0.plan, m.1)

  abbrev pub Checked : At T → Sat T M → ℕ → Sat T M → Type 0
  Checked st m found m' = length m.0.seen ≤ found → m' ≡ (noted m.0.seen, m.1)

  abbrev pub Met : At T → Sat T M → ℕ → Sat T M → Type 0
  Met st m found m' = Joins m.0 m'.0 × (m'.1 ≡ m.1)
