-- The blocks of a range.
use Rattle.std.specs.Prelude.{ℕ, ◌+◌, ◌-◌, ◌*◌, ◌^◌, ◌%◌, ◌≤◌, List, ◌++◌, length, take, drop, replicate}
use Rattle.tk_kernel.specs.Xor.{xor_all}
use Rattle.tk_kernel.specs.Chosen.{chosen_from}

-- the bytes of each block, the number of the first, and the blocks
pub record Ranged : Type 0 where
  pub width : ℕ
  pub first : ℕ
  pub blocks : List (List ℕ)

-- the most blocks: as many whole eights as 32 bits count
abbrev pub most_blocks : ℕ
most_blocks = 2 ^ 32 - 8

-- where it begins and where it ends
abbrev pub range_of : Ranged → ℕ × ℕ
range_of r = (r.first, r.first + length r.blocks)

-- those of all blocks from one number to before another
abbrev pub range_in : ℕ → ℕ → ℕ → List (List ℕ) → Ranged
range_in width from end blocks =
    record { width = width; first = from; blocks = take (end - from) (drop from blocks) }

-- so many blocks of zeros
abbrev pub zero_blocks : ℕ → ℕ → List (List ℕ)
zero_blocks width count = replicate count (replicate width 0)

-- how many are missing to the next whole eight
abbrev pub lacking : ℕ → ℕ
lacking n = (8 - n % 8) % 8

-- with blocks of zeros before and after, the blocks begin and end at whole eights
abbrev pub padded : Ranged → List (List ℕ)
padded r =
    zero_blocks r.width (r.first % 8)
    ++ (r.blocks ++ zero_blocks r.width (lacking (r.first + length r.blocks)))

-- the sum of the blocks of a range that a vector over all blocks chooses
abbrev pub part_of : Ranged → List ℕ → List ℕ
part_of r vector = xor_all r.width (chosen_from r.first r.blocks vector)

-- a vector over all blocks has a bit for each up to the end of the range
abbrev pub Reaches : Ranged → List ℕ → Type 0
Reaches r vector = r.first + length r.blocks ≤ 8 * length vector
