-- The steps that are written on the way back from an end.
use Rattle.std.proofs.Common.{◌≡◌, ℕ, ◌+◌, ◌<◌, ◌≤◌, List, ◌∷◌, ◌++◌, length, map, take, ap, ◌∙◌, take-take}
use Rattle.std.proofs.lemmas.List.{take-append-le}
use Rattle.tk_place.specs.Place.{Reached, Spot}
use Rattle.tk_place.specs.Views.{place_at, spot_of}
use Rattle.tk_place.specs.declared.search.End.{End}
use Rattle.tk_place.specs.declared.step.Step.{Step}

-- the steps to a slot of a place
abbrev pub steps_to : List Reached → ℕ → ℕ → List Spot
steps_to places place slot = ((place_at places place).bucket, slot) ∷ (place_at places place).through

-- So many steps were written; with those to this slot of this place they are all.
pub record IsWalking (places : List Reached) (end : End) (steps : List Step) (place slot count : ℕ) : Type 0 where
  pub within : place < length places
  pub short : count + place ≤ end.place
  pub rest : map spot_of (take count steps) ++ steps_to places place slot ≡ steps_to places end.place end.slot

-- the steps that were written are at the front of all
pub written : (front rest : List Step) (n len : ℕ) (steps : List Spot) → n ≤ length front → n ≤ len → map spot_of (take n front) ≡ steps →
    map spot_of (take n (take len (front ++ rest))) ≡ steps
written front rest n len steps within below e =
    ap (map spot_of) (take-take n len (front ++ rest) below ∙ take-append-le n front rest within) ∙ e
