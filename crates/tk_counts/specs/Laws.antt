-- What all lists of a length are, and that a change that is one to one keeps counts.
use Rattle.std.specs.Prelude.{◌≡◌, ℕ, ◌^◌, Bool, List, length, count_by, All}
use Rattle.std.specs.Str.{bytes_eq}
use Rattle.tk_counts.specs.Counts.{all_lists, IsListBelow, count_lists, IsUndoneBy}

-- each list of n numbers below a bound is once among all of them
abbrev pub EachOnce : Type 0
EachOnce =
    (bound n : ℕ) (xs : List ℕ) → IsListBelow bound n xs →
    count_by (λ ys. bytes_eq ys xs) (all_lists bound n) ≡ 1

-- and nothing else is
abbrev pub NoneElse : Type 0
NoneElse = (bound n : ℕ) → All (IsListBelow bound n) (all_lists bound n)

-- so there are as many as this: 256 ^ n lists of n bytes
abbrev pub AllCounted : Type 0
AllCounted = (bound n : ℕ) → length (all_lists bound n) ≡ bound ^ n

-- where each of two changes undoes the other, a test passes on as many lists as it does on changed
-- ones
abbrev pub AsMany : Type 0
AsMany =
    (bound n : ℕ) (f g : List ℕ → List ℕ) → IsUndoneBy bound n f g → IsUndoneBy bound n g f →
    (test : List ℕ → Bool) →
    count_lists bound n (λ xs. test (f xs)) ≡ count_lists bound n test
