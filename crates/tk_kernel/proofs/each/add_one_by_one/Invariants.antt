use Rattle.std.proofs.Common.{◌≡◌, ℕ, ◌*◌, ◌<◌, ◌≤◌, length, slice_index_or, Vec, Global}
use Rattle.tk_kernel.specs.Chosen.{chosen_from}
use Rattle.tk_kernel.specs.Pieces.{all_pieces}
use Rattle.tk_kernel.specs.Xor.{xor_bytes, xor_all}
use Rattle.tk_kernel.proofs.each.add_one_by_one.Given as goal

abbrev pub invariant-loop-k : goal.invariant-loop-k
invariant-loop-k l =
    (length l.sums ≡ length l.fn.sums)
    × ((k : ℕ) (d e : Vec ℕ Global) → k < l.k
    → (slice_index_or l.sums k d).items
    ≡ xor_bytes (slice_index_or l.fn.sums k d).items
    (xor_all l.size (chosen_from (8 * l.first) (all_pieces l.size l.blocks) (slice_index_or l.vectors k e).items)))
    × ((k : ℕ) (d : Vec ℕ Global) → l.k ≤ k → slice_index_or l.sums k d ≡ slice_index_or l.fn.sums k d)
