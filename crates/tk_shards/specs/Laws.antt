-- Sums range by range.
use Rattle.std.specs.Prelude.{◌≡◌, ℕ, ◌-◌, None, List, length, map, take, drop}
use Rattle.tk_kernel.specs.Xor.{xor_all}
use Rattle.tk_kernel.specs.Pieces.{AllSized}
use Rattle.tk_kernel.specs.Chosen.{chosen_from, chosen_sum}
use Rattle.tk_shards.specs.Division.{Divided, first_cut, ranges_of}

-- the sum of the blocks that a vector chooses from one number to before another
abbrev pub sum_between : ℕ → List (List ℕ) → List ℕ → ℕ × ℕ → List ℕ
sum_between width blocks vector (from, end) =
    xor_all width (chosen_from from (take (end - from) (drop from blocks)) vector)

-- however blocks are divided, the sums over the ranges, added, are the sum over all blocks
abbrev pub RangesMakeTheSum : Type 0
RangesMakeTheSum =
    (width : ℕ) (blocks : List (List ℕ)) (vector : List ℕ) (d : Divided) → AllSized width blocks
    → d.buckets ≡ length blocks → first_cut 0 0 d.buckets d.cuts ≡ None
    → xor_all width (map (sum_between width blocks vector) (ranges_of d)) ≡ chosen_sum width blocks vector
