-- What a queue and a scratch are seen as.
use Rattle.std.specs.Prelude.{ℕ, List, Option, Some, None, [], ◌∷◌, ◌++◌, slice_index_or}
use Rattle.tk_place.specs.Place.{Spot, Reached}
use Rattle.tk_place.specs.declared.queue.Link.{Link}
use Rattle.tk_place.specs.declared.queue.Queued.{Queued}
use Rattle.tk_place.specs.declared.step.Step.{Step}

-- the places that a queue has, of a table with so many buckets
pub record Line : Type 0 where
  pub buckets : ℕ
  pub places : List Reached

-- the steps that a scratch has, for a table with so many buckets
pub record Steps : Type 0 where
  pub buckets : ℕ
  pub steps : List Spot

abbrev pub spot_of : Step → Spot
spot_of s = (s.bucket, s.slot)

-- the place of that number
abbrev pub place_at : List Reached → ℕ → Reached
place_at places k = slice_index_or places k (record { bucket = 0; through = [] })

-- the slots that lead through a link: the linked place's slot, and those that led to that place
abbrev pub through_of : List Reached → Option Link → List Spot
through_of places None = []
through_of places (Some link) =
    let from = place_at places link.place in (from.bucket, link.slot) ∷ from.through

-- a bucket reached through a link
abbrev pub reached_by : List Reached → ℕ → Option Link → Reached
reached_by places bucket link = record { bucket = bucket; through = through_of places link }

-- the places so far, and those of what was queued after them
abbrev pub places_from : List Reached → List Queued → List Reached
places_from places [] = places
places_from places (q ∷ qs) = places_from (places ++ reached_by places q.bucket q.link ∷ []) qs
