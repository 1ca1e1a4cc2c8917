-- What a table has to be, so that it can be searched.
use Rattle.std.specs.Prelude.{◌≡◌, ℕ, ◌<◌, Bool, true, length, slice_index_or, Option, Some, None, is_none, IfSome, All}
use Rattle.std.specs.List.{list_all}
use Rattle.tk_place.specs.Place.{Others, slots_of, lowest_empty}

-- what a slot has, which is nothing outside the table
abbrev pub slot_at : Others → ℕ → ℕ → Option ℕ
slot_at T bucket slot = slice_index_or (slots_of T bucket) slot None

-- the entry of a slot has its other bucket below n
abbrev pub IsBelow : ℕ → Option ℕ → Type 0
IsBelow n slot = IfSome slot (λ other. other < n)

-- Each bucket has that many slots, one at least, and each entry names one of the buckets.
pub record IsTable (depth : ℕ) (T : Others) : Type 0 where
  pub some : 0 < depth
  pub sized : All (λ slots. length slots ≡ depth) T
  pub named : All (λ slots. All (IsBelow (length T)) slots) T

-- the other bucket of a slot's entry is full
abbrev pub is_other_full : Others → Option ℕ → Bool
is_other_full T None = true
is_other_full T (Some other) = is_none (lowest_empty T other)

-- the other bucket of each entry in a bucket is full
abbrev pub leads_to_full : Others → ℕ → Bool
leads_to_full T bucket = list_all (is_other_full T) (slots_of T bucket)

-- the other bucket of a slot's entry leads to full ones alone
abbrev pub does_other_lead_to_full : Others → Option ℕ → Bool
does_other_lead_to_full T None = true
does_other_lead_to_full T (Some other) = leads_to_full T other

-- so does the other bucket of each entry in a bucket
abbrev pub others_lead_to_full : Others → ℕ → Bool
others_lead_to_full T bucket = list_all (does_other_lead_to_full T) (slots_of T bucket)
