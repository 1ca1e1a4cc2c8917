use Rattle.std.proofs.Common.{◌≡◌, ℕ, ◌<◌, length, take, drop, slice_index, slice_index_or, Vec, Global}
use Rattle.tk_kernel.specs.Words.{bytes_of}
use Rattle.tk_kernel.proofs.words.whole_words.Given as goal

abbrev pub invariant-loop-k : goal.invariant-loop-k
invariant-loop-k l =
    (length l.words ≡ 128)
    × ((k : ℕ) (e : Vec ℕ Global) → k < l.k
    → bytes_of 8 (slice_index l.words k) ≡ take 8 (drop l.first (slice_index_or l.vectors k e).items))
