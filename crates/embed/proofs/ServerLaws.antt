-- What a frame does to a server, and to several.
use Rattle.std.proofs.Common.{◌≡◌, ℕ, ◌+◌, ◌<◌, ◌≤◌, ◌∙◌, ap, arith, List, [], ◌∷◌, ◌++◌, length, map, take}
use Rattle.std.specs.Prelude.{slice_index_or}
use Rattle.std.proofs.lemmas.List.{map-append, take_more}
use Rattle.tk_shape.specs.declared.shape.Shape.{Shape}
use Rattle.tk_frames.specs.declared.entry.Placed.{Placed}
use Rattle.tk_frames.specs.Ranges.{IsPlaced}
use Rattle.tk_frames.specs.Spelling.{placed_frame}
use Rattle.tk_replica.specs.Replica.{ReplicaView, StandsFor}
use Rattle.embed.specs.Servers.{AllStandFor}
use Rattle.tk_lists.proofs.Offers.{ChangedUpTo}

-- a server has taken the entry that these bytes spell
abbrev pub Takes : List ℕ → ReplicaView → ReplicaView → Type 0
Takes bytes old new =
    (shape : Shape) (E : List Placed) (p : Placed) → StandsFor shape E old →
    IsPlaced shape p → bytes ≡ placed_frame p → StandsFor shape (E ++ p ∷ []) new

pub all_take : (bytes : List ℕ) (i : ℕ) (old new : List ReplicaView) (shape : Shape)
    (E : List Placed) (p : Placed) → length new ≤ i → ChangedUpTo (Takes bytes) i old new →
    AllStandFor shape E old → IsPlaced shape p → bytes ≡ placed_frame p →
    AllStandFor shape (E ++ p ∷ []) new
all_take bytes i old new shape E p past h are in_range spelled =
    let same = h.counted in
    record {
      counted = same ∙ are.counted;
      each = λ k d within.
          let low : k < length old = omega (arith, within, same) in
          h.done k d (omega (arith, within, past)) low shape E p (are.each k d low) in_range
          spelled;
    }

-- what a function gives for the elements up to a place, and for the one there
pub map-next : {X Y : Type 0} (f : X → Y) (xs : List X) (i : ℕ) (d : X) → i < length xs →
    map f (take (i + 1) xs) ≡ map f (take i xs) ++ f (slice_index_or xs i d) ∷ []
map-next f xs i d low =
    ap (map f) (take_more xs i d low) ∙ map-append f (take i xs) (slice_index_or xs i d ∷ [])
