-- The buckets and filter positions of a number of a log.
use Rattle.std.specs.Prelude.{ℕ, ◌%◌, List, map}
use Rattle.std.specs.List.{range_with_len}
use Rattle.tk_handle.specs.declared.handle.Handle.{Handle}
use Rattle.tk_handle.specs.Handle.{word}

abbrev pub keyed_pair : ℕ → Handle → ℕ → ℕ × ℕ
keyed_pair buckets h s = (word h.seed1 s 0 % buckets, word h.seed2 s 0 % buckets)

abbrev pub keyed_hits : ℕ → ℕ → Handle → ℕ → List ℕ
keyed_hits bits count h s = map (λ i. word h.seed2 s i % bits) (range_with_len 1 count)
