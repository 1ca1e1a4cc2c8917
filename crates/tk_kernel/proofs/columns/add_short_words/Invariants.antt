use Rattle.std.proofs.Common.{◌≡◌, ℕ, ◌<◌, ◌≤◌, length, slice_index, slice_index_or, Vec, Global}
use Rattle.std.specs.Simd.Lanes.{put_chunk, chunk}
use Rattle.tk_kernel.specs.Nibbles.{taken}
use Rattle.tk_kernel.proofs.columns.add_short_words.Given as goal

abbrev pub invariant-loop-k : goal.invariant-loop-k
invariant-loop-k g l =
    (length l.sums ≡ length l.fn.sums)
    × ((k : ℕ) (d : Vec ℕ Global) → k < l.k
    → (slice_index_or l.sums k d).items
    ≡ put_chunk l.i (slice_index_or l.fn.sums k d).items
    (taken l.tables (chunk l.i g.row.N (slice_index_or l.fn.sums k d).items) (slice_index l.words k)))
    × ((k : ℕ) (d : Vec ℕ Global) → l.k ≤ k → slice_index_or l.sums k d ≡ slice_index_or l.fn.sums k d)
