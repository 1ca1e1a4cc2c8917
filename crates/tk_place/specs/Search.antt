-- Where a search ended.
use Rattle.std.specs.Prelude.{◌≡◌, ℕ, ◌<◌, ◌≤◌, true, false, List, [], ◌∷◌, ◌++◌, length, Some, None}
use Rattle.tk_place.specs.Place.{Others, Reached, lowest_empty, search_end}
use Rattle.tk_place.specs.Table.{slot_at, is_other_full, leads_to_full}
use Rattle.tk_place.specs.Views.{place_at}
use Rattle.tk_place.specs.declared.search.End.{End}

-- the place in the queue where the search ends, and the lowest empty slot there
pub record IsEnd (T : Others) (new : ℕ × ℕ) (places : List Reached) (end : End) : Type 0 where
  pub within : end.place < length places
  pub ended : search_end T new ≡ Some (place_at places end.place)
  pub empty : lowest_empty T (place_at places end.place).bucket ≡ Some end.slot

-- the buckets at the places from one on to another have no empty slot
abbrev pub AreFull : Others → List Reached → ℕ → ℕ → Type 0
AreFull T places from to =
    (k : ℕ) → from ≤ k → k < to → lowest_empty T (place_at places k).bucket ≡ None

-- the first place from one on with an empty slot, and the lowest such slot
pub record IsFirst (T : Others) (places : List Reached) (start : ℕ) (end : End) : Type 0 where
  pub from : start ≤ end.place
  pub within : end.place < length places
  pub full : AreFull T places start end.place
  pub empty : lowest_empty T (place_at places end.place).bucket ≡ Some end.slot

-- the buckets at the places from one on to another lead to full ones alone
abbrev pub LeadToFull : Others → List Reached → ℕ → ℕ → Type 0
LeadToFull T places from to =
    (k : ℕ) → from ≤ k → k < to → leads_to_full T (place_at places k).bucket ≡ true

-- the first place from one on whose bucket leads to one that isn't full
pub record IsLeading (T : Others) (places : List Reached) (start place : ℕ) : Type 0 where
  pub from : start ≤ place
  pub within : place < length places
  pub before : LeadToFull T places start place
  pub leads : leads_to_full T (place_at places place).bucket ≡ false

-- the first bucket with an empty slot that the entries in a place's bucket name, how it is reached, and its lowest
-- empty slot
pub record IsFirstNamed (T : Others) (from found : Reached) (free : ℕ) : Type 0 where
  pub slot : ℕ
  pub named : slot_at T from.bucket slot ≡ Some found.bucket
  pub through : found.through ≡ (from.bucket, slot) ∷ from.through
  pub before : (i : ℕ) → i < slot → is_other_full T (slot_at T from.bucket i) ≡ true
  pub empty : lowest_empty T found.bucket ≡ Some free

-- that bucket is queued after all others, and the search ends there
pub record IsBehind (T : Others) (from : Reached) (old new : List Reached) (end : End) : Type 0 where
  pub found : Reached
  pub first : IsFirstNamed T from found end.slot
  pub queued : new ≡ old ++ found ∷ []
  pub last : end.place ≡ length old
