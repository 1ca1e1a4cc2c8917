-- The vectors so far are appended, and those that are left are still to come.
use Rattle.std.proofs.Common.{◌≡◌, ◌-◌, ◌*◌, ◌++◌, length, flat_map}
use Rattle.tk_kernel.specs.Pieces.{pieces}
use Rattle.tk_words.specs.Lifting.{with_zero_seed}
use Rattle.tk_words.proofs.lifting.push_with_seeds.Given as goal

abbrev pub invariant-vectors : goal.invariant-vectors
invariant-vectors l =
    (length l.rest ≡ (l.count - l.counter) * l.size)
    × (l.out.items ++ flat_map with_zero_seed (pieces l.size (l.count - l.counter) l.rest)
    ≡ l.initial.out.items ++ flat_map with_zero_seed (pieces l.size l.count l.vectors))
