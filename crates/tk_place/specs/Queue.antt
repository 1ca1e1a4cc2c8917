-- The insides of a queue.
use Rattle.std.specs.Prelude.{◌≡◌, ℕ, ◌+◌, ◌^◌, ◌<◌, ◌≤◌, ◌==◌, Bool, false, List, [], ◌∷◌}
use Rattle.std.specs.Prelude.{length, map, slice_index_or, take, All, IfSome, vec_len}
use Rattle.tk_place.specs.Place.{Reached, has_bucket}
use Rattle.tk_place.specs.Views.{Line, places_from}
use Rattle.tk_place.specs.declared.queue.Queued.{Queued}
use Rattle.tk_place.specs.declared.queue.Queue.TheInside.{Inside}

abbrev pub line_of : Inside → Line
line_of q =
    record { buckets = vec_len q.stamps; places = places_from [] (take q.len q.places.items) }

-- which buckets have this stamp
abbrev pub marks_of : ℕ → List ℕ → List Bool
marks_of stamp stamps = map (λ s. s == stamp) stamps

-- each bucket is below n, and stands there once
abbrev pub AreDistinct : ℕ → List Reached → Type 0
AreDistinct n [] = Unit {0}
AreDistinct n (p ∷ ps) = (p.bucket < n) × (has_bucket ps p.bucket ≡ false) × AreDistinct n ps

-- each link leads to an earlier place; the first of these places has number k
abbrev pub AreLinked : ℕ → List Queued → Type 0
AreLinked k [] = Unit {0}
AreLinked k (q ∷ qs) = IfSome q.link (λ link. link.place < k) × AreLinked (k + 1) qs

-- What is kept of the rooms of a queue for n buckets, of which so many are taken, and of the marks of buckets. One room
-- is left when all buckets are queued.
pub record IsLine (rooms : List Queued) (len : ℕ) (seen : List Bool) (n : ℕ) : Type 0 where
  pub room : length rooms ≡ n + 1
  pub marks : length seen ≡ n
  pub within : len ≤ n
  pub linked : AreLinked 0 (take len rooms)
  pub distinct : AreDistinct n (places_from [] (take len rooms))
  pub marked : (b : ℕ) → b < n
      → slice_index_or seen b false ≡ has_bucket (places_from [] (take len rooms)) b

-- The buckets that are queued have this stamp, and none has one to come.
pub record IsStamped (rooms : List Queued) (len : ℕ) (stamps : List ℕ) (stamp n : ℕ) : Type 0 where
  pub few : n < 2 ^ 32
  pub line : IsLine rooms len (marks_of stamp stamps) n
  pub past : All (λ s. s ≤ stamp) stamps

-- the stamp is that of this search
abbrev pub IsQueue : Inside → Type 0
IsQueue q = IsStamped q.places.items q.len q.stamps.items q.stamp (vec_len q.stamps)
