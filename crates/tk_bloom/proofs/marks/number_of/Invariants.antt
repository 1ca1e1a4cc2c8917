-- So far the number of the last marks, which has as many digits.
use Rattle.std.proofs.Common.{◌≡◌, ◌-◌, ◌<◌, ◌≤◌, ◌^◌, map, drop, length, nat_lt}
use Rattle.tk_bloom.specs.Packing.{number_of}
use Rattle.tk_bloom.proofs.marks.number_of.Given as goal

abbrev pub invariant-left : goal.invariant-left
invariant-left l =
    (l.left ≤ length l.counts)
    × (l.number ≡ number_of (map (λ n. nat_lt 0 n) (drop l.left l.counts)))
    × (l.number < 2 ^ (length l.counts - l.left))

abbrev pub decreases-left : goal.decreases-left
decreases-left l = l.left
