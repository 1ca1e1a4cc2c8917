-- Why a window of counts serves.
use Rattle.std.specs.Prelude.{◌≡◌, ℕ, List, ◌++◌, true, Contains}
use Rattle.tk_bloom.specs.Windows.{window}
use Rattle.tk_bloom.specs.Filters.{positions_of, is_shown}

-- a window that goes on is the window of all pushes
abbrev pub WindowsGoOn : Type 0
WindowsGoOn =
    (n : ℕ) (earlier later : List (List ℕ))
    → window n (window n earlier ++ later) ≡ window n (earlier ++ later)

-- a push that is in the window is shown
abbrev pub PushesAreShown : Type 0
PushesAreShown =
    (pushes : List (List ℕ)) (hits : List ℕ)
    → Contains pushes hits → is_shown (positions_of pushes) hits ≡ true
