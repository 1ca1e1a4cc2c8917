-- What a search answers.
use Rattle.std.specs.Prelude.{◌≡◌, ℕ, List, [], ◌∷◌, length, Bool, false, ◌==◌, ◌⊎◌, All}
use Rattle.std.specs.Prelude.{Option, Some, None, IsSomeAnd, IsTrue}
use Rattle.std.specs.List.{list_any}
use Rattle.tk_place.specs.Place.{Others, Spot, Reached, slots_of, lowest_empty, has_bucket, reached, search_end}
use Rattle.tk_place.specs.Table.{slot_at}
use Rattle.tk_place.specs.declared.search.Found.{Found}
use Rattle.tk_place.specs.declared.search.Found.TheVariants.{Chain, NoPlace}

-- The steps begin with the lowest empty slot of the bucket where the search ends. Then come the slots through which
-- that bucket was reached, the nearest first.
pub record IsChain (T : Others) (new : ℕ × ℕ) (steps : List Spot) : Type 0 where
  pub end : Reached
  pub slot : ℕ
  pub ended : search_end T new ≡ Some end
  pub empty : lowest_empty T end.bucket ≡ Some slot
  pub moves : steps ≡ (end.bucket, slot) ∷ end.through

-- there are as many steps as the answer says, and they are the chain; or the search has no end
abbrev pub IsAnswer : Others → ℕ × ℕ → Found → List Spot → Type 0
IsAnswer T new (Chain n) steps = (n ≡ length steps) × IsChain T new steps
IsAnswer T new NoPlace steps = (steps ≡ []) × (search_end T new ≡ None)

-- a slot of this bucket is among these
abbrev pub is_on : List Spot → ℕ → Bool
is_on spots b = list_any (λ s. b == s.0) spots

-- The entry in each slot could also lie in the bucket before, which is b at first, and the new entry in the last. No
-- bucket comes twice.
abbrev pub IsPath : Others → ℕ × ℕ → ℕ → List Spot → Type 0
IsPath T new b [] = (b ≡ new.0) ⊎ (b ≡ new.1)
IsPath T new b (s ∷ ss) =
    (slot_at T s.0 s.1 ≡ Some b) × (is_on (s ∷ ss) b ≡ false) × IsPath T new s.0 ss

-- Each step's entry could also lie where the step before leads, and the new entry at the last step.
abbrev pub AreMoves : Others → ℕ × ℕ → List Spot → Type 0
AreMoves T new [] = Unit {0}
AreMoves T new (to ∷ from) = IsPath T new to.0 from

-- each slot has an entry, whose other bucket is one of these
abbrev pub AreFullWithin : List Reached → List (Option ℕ) → Type 0
AreFullWithin places slots =
    All (λ slot. IsSomeAnd slot (λ other. IsTrue (has_bucket places other))) slots

-- All buckets reached are full; the new entry and each of theirs have both buckets among them.
pub record IsBlocked (T : Others) (new : ℕ × ℕ) : Type 0 where
  pub first : IsTrue (has_bucket (reached T new) new.0)
  pub second : IsTrue (has_bucket (reached T new) new.1)
  pub full : (b : ℕ) → IsTrue (has_bucket (reached T new) b)
      → AreFullWithin (reached T new) (slots_of T b)
