-- Sums that are made some ranges at a time.
use Rattle.std.specs.Prelude.{◌≡◌, ℕ, ◌*◌, ◌<◌, ◌≤◌, List, [], ◌∷◌, length, map, slice_index_or, Vec, Result, Ok, Err, IfOk}
use Rattle.std.specs.Fork.{slice_chunk}
use Rattle.std.specs.Global.{Global}
use Rattle.std.specs.List.{All}
use Rattle.tk_shape.specs.declared.memory.Memory.{Memory}
use Rattle.tk_kernel.specs.Xor.{xor_bytes, xor_all}
use Rattle.tk_kernel.specs.Pieces.{AllSized}
use Rattle.tk_shards.specs.Ranged.{Ranged, part_of, Reaches}

-- the sums over some ranges, a sum for each vector, if there was memory
abbrev pub Part : Type 0
Part = Result (Vec (List ℕ) Global) Memory

-- a range of blocks of this size, for each of which the vectors have a bit
pub record IsAsked (width : ℕ) (vectors : List (List ℕ)) (r : Ranged) : Type 0 where
  pub wide : r.width ≡ width
  pub sized : AllSized width r.blocks
  pub reach : All (Reaches r) vectors

-- the sum of the blocks of some ranges that a vector over all blocks chooses
unfoldable pub sum_in : ℕ → List Ranged → List ℕ → List ℕ
sum_in width rs vector = xor_all width (map (λ r. part_of r vector) rs)

-- each part that was made has the sums over its ranges, of which there are so many in a row, and
-- together they reach over all
pub record HasParts (width size : ℕ) (rs : List Ranged) (vectors : List (List ℕ)) (parts : List Part)
    : Type 0 where
  pub reach : length rs ≤ length parts * size
  pub each : (n : ℕ) (d : Part) → n < length parts →
      IfOk (slice_index_or parts n d)
      (λ sums. sums.items ≡ map (sum_in width (slice_chunk rs size n)) vectors)

-- the sums of one list added to those of another
abbrev pub xor_rows : List (List ℕ) → List (List ℕ) → List (List ℕ)
xor_rows [] ys = []
xor_rows (x ∷ xs) [] = []
xor_rows (x ∷ xs) (y ∷ ys) = xor_bytes x y ∷ xor_rows xs ys

-- a part whose sums have these lengths, if it was made
abbrev pub HasLengths : List ℕ → Part → Type 0
HasLengths lengths (Ok part) = map length part.items ≡ lengths
HasLengths lengths (Err refusal) = Unit {0}

-- at least one part; and the sums of the others are as long as those of the first
abbrev pub AreAlike : List Part → Type 0
AreAlike [] = ⊥
AreAlike (Ok part ∷ parts) = All (HasLengths (map length part.items)) parts
AreAlike (Err refusal ∷ parts) = Unit {0}

-- there was memory for each of these parts, and added to the start they make all
abbrev pub AddUp : List (List ℕ) → List Part → List (List ℕ) → Type 0
AddUp start [] all = all ≡ start
AddUp start (Ok part ∷ parts) all = AddUp (xor_rows start part.items) parts all
AddUp start (Err refusal ∷ parts) all = ⊥

-- the same of all parts, the first of which is the start
abbrev pub IsTotal : List Part → List (List ℕ) → Type 0
IsTotal [] all = ⊥
IsTotal (Ok part ∷ parts) all = AddUp part.items parts all
IsTotal (Err refusal ∷ parts) all = ⊥
