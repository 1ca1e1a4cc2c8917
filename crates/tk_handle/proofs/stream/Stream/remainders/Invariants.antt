-- The words so far are written.
use Rattle.std.proofs.Common.{◌≡◌, ◌+◌, ◌%◌, take, map}
use Rattle.std.specs.List.{range_with_len}
use Rattle.tk_handle.specs.Handle.{word}
use Rattle.tk_handle.proofs.stream.Stream.remainders.Given as goal

abbrev pub invariant-loop-i : goal.invariant-loop-i
invariant-loop-i l =
    (l.self ≡ record l.fn.self { place = l.fn.self.place + l.i })
    × (take l.i l.out ≡ map (λ i. word l.fn.self.key l.fn.self.stream i % l.below) (range_with_len l.fn.self.place l.i))
