-- Blocks in ranges, one behind the other.
use Rattle.std.specs.Prelude.{◌≡◌, ◌≢◌, ℕ, ◌+◌, ◌<◌, ◌≤◌, List, [], ◌∷◌, length, map, slice_index_or}
use Rattle.std.specs.List.{All, flat_map}
use Rattle.tk_kernel.specs.Pieces.{AllSized}
use Rattle.tk_shards.specs.Division.{Divided, ranges_of}
use Rattle.tk_shards.specs.Ranged.{Ranged, range_of, most_blocks}

-- the bytes of each block, all blocks, and where each range begins and ends
pub record Sharded : Type 0 where
  pub width : ℕ
  pub blocks : List (List ℕ)
  pub ranges : List (ℕ × ℕ)

-- the blocks of all ranges
abbrev pub blocks_of : List Ranged → List (List ℕ)
blocks_of rs = flat_map (λ r. r.blocks) rs

abbrev pub sharded : ℕ → List Ranged → Sharded
sharded width rs =
    record { width = width; blocks = blocks_of rs; ranges = map range_of rs }

-- each range begins where the one before it ends; the first begins at number n
abbrev pub AreInRow : ℕ → List Ranged → Type 0
AreInRow n [] = Unit {0}
AreInRow n (r ∷ rs) = (r.first ≡ n) × AreInRow (n + length r.blocks) rs

-- each block of the range has this width
pub record IsOfWidth (width : ℕ) (r : Ranged) : Type 0 where
  pub wide : r.width ≡ width
  pub sized : AllSized width r.blocks

-- at least one range; and not more blocks than 32 bits count, with those that make them whole eights
pub record AreShards (width count : ℕ) (rs : List Ranged) : Type 0 where
  pub some : 0 < width
  pub any : 0 < length rs
  pub row : AreInRow 0 rs
  pub sized : All (IsOfWidth width) rs
  pub counted : length (blocks_of rs) ≡ count
  pub small : count ≤ most_blocks

-- the blocks in these ranges
pub record AreDivided (width : ℕ) (blocks : List (List ℕ)) (d : Divided) (rs : List Ranged) : Type 0 where
  pub any : 0 < length rs
  pub row : AreInRow 0 rs
  pub sized : All (IsOfWidth width) rs
  pub all : blocks_of rs ≡ blocks
  pub ranges : map range_of rs ≡ ranges_of d

-- block i lies in range number k
pub record IsIn (rs : List Ranged) (i k : ℕ) : Type 0 where
  pub within : k < length rs
  pub begun : (d : Ranged) → (slice_index_or rs k d).first ≤ i
  pub before : (d : Ranged) → i < (slice_index_or rs k d).first + length (slice_index_or rs k d).blocks

-- but for the elements of these numbers the lists are the same
pub record AreSameBut (changed : List ℕ) (xs ys : List (List ℕ)) : Type 0 where
  pub count : length xs ≡ length ys
  pub others : (i : ℕ) (d : List ℕ) → i < length xs → All (λ j. j ≢ i) changed →
      slice_index_or xs i d ≡ slice_index_or ys i d
