-- What clauses see of the objects in memory: their bytes, at which calls they fail, and how many calls and faults there were.
use Rattle.std.specs.Prelude.{ℕ, ◌+◌, ◌-◌, ◌^◌, min, List, [], ◌∷◌, slice_get, Option}

pub record SourceState : Type 0 where
  pub left : List ℕ
  pub cut : ℕ
  pub fails : List ℕ
  pub calls : ℕ
  pub faults : ℕ

pub record SinkState : Type 0 where
  pub held : List ℕ
  pub cut : ℕ
  pub fails : List ℕ
  pub calls : ℕ
  pub faults : ℕ

pub record TapsState : Type 0 where
  pub taps : List (List ℕ)
  pub fails : List ℕ
  pub calls : ℕ
  pub faults : ℕ

-- the number of the next call, which stands still at its type's end
abbrev pub next_call : ℕ → ℕ
next_call calls = min (calls + 1) (2 ^ 32 - 1)

-- the count after one more fault, which stands still at its type's end
abbrev pub next_fault : ℕ → ℕ
next_fault faults = min (faults + 1) (2 ^ 64 - 1)

-- a server's list; servers count from 1
abbrev pub tap_of : TapsState → ℕ → Option (List ℕ)
tap_of t server = slice_get ([] ∷ t.taps) server
