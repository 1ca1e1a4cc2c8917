-- Searches that find nothing, and what shows that they do again.
use Rattle.std.specs.Prelude.{◌≡◌, ◌<◌, ◌≤◌, ◌⊎◌, ℕ, ◌+◌, ◌-◌, ◌==◌, nat_lt, Bool, ◌&&◌, not}
use Rattle.std.specs.Prelude.{List, length, find, slice_index_or, Option, Some, None}
use Rattle.std.specs.List.{range_with_len}
use Rattle.tk_shape.specs.declared.shape.Shape.{Shape}
use Rattle.tk_words.specs.Words.{WordBook, hits_under}
use Rattle.tk_bloom.specs.Filters.{all_marked}
use Rattle.tk_client.specs.declared.positions.Origin.{Origin}
use Rattle.tk_client.specs.declared.vain_search.VainSearch.{VainSearch}
use Rattle.tk_client.specs.Positions.{IsOriginOf}
use Rattle.tk_client.specs.Reader.{Follow, next_of, follow_in}
use Rattle.tk_client.specs.Searching.{follows_anew}

-- whether a filter with these marks shows a number whose positions come from there
abbrev pub shown_from : List Bool → Origin → ℕ → Bool
shown_from marks o s = all_marked marks (hits_under o.bits o.hits o.seed s)

-- Of the numbers from a log's next one on, in a run of so many turns that reads so far ahead, none is shown but those
-- that are tried. Nothing is said where positions come from nowhere.
abbrev pub NoneShown : ℕ → ℕ → List Bool → Option Origin → ℕ → ℕ → Type 0
NoneShown turns ahead marks None next tried = Unit {0}
NoneShown turns ahead marks (Some o) next tried =
    find (λ j. nat_lt (next + j) turns && shown_from marks o (next + j))
    (range_with_len tried (ahead - tried))
    ≡ None

abbrev pub ShowsNothing : ℕ → ℕ → List Bool → Option Origin → Follow → Type 0
ShowsNothing turns ahead marks o f = NoneShown turns ahead marks o (next_of f) f.tried

-- where the positions of the log at a place come from
abbrev pub origin_in : List (Option Origin) → ℕ → Option Origin
origin_in origins i = slice_index_or origins i None

-- of the logs at the places from one up to another nothing is shown
abbrev pub ShowNothing :
    ℕ → ℕ → List Bool → List (Option Origin) → List Follow → ℕ → ℕ → Type 0
ShowNothing turns ahead marks origins follows from to =
    (i : ℕ) → from ≤ i → i < to → ShowsNothing turns ahead marks (origin_in origins i) (follow_in follows i)

-- positions come from where they did, but for the places from one up to another
abbrev pub AreSameOutside : ℕ → ℕ → List (Option Origin) → List (Option Origin) → Type 0
AreSameOutside from to old new =
    (i : ℕ) → (i < from) ⊎ (to ≤ i) → origin_in new i ≡ origin_in old i

-- the positions that a book has for the first so many logs come from there
abbrev pub AreOrigins : Shape → WordBook → List Follow → List (Option Origin) → ℕ → Type 0
AreOrigins shape b follows origins n =
    (i : ℕ) → i < n → IsOriginOf shape b (follow_in follows i).log (origin_in origins i)

-- a search over its epoch finds nothing, where that epoch is new if it isn't the last one
abbrev pub IsVain : List Follow → List (Option Origin) → ℕ → VainSearch → Type 0
IsVain follows origins last v =
    ShowNothing v.turns v.ahead v.filter origins (follows_anew (not (v.epoch == last)) follows) 0
    (length follows)

abbrev pub IsVainOrNone : List Follow → List (Option Origin) → ℕ → Option VainSearch → Type 0
IsVainOrNone follows origins last None = Unit {0}
IsVainOrNone follows origins last (Some v) = IsVain follows origins last v

-- what a reader keeps
pub record IsReader (follows : List Follow) (origins : List (Option Origin)) (cursor last : ℕ)
    (vain : Option VainSearch) : Type 0 where
  pub cursor_in : cursor ≤ length follows
  pub positions_each : length origins ≡ length follows
  pub vain_is : IsVainOrNone follows origins last vain
