-- So far the first of the hits are appended.
use Rattle.std.proofs.Common.{◌≡◌, ◌++◌, take}
use Rattle.tk_bloom.proofs.tally.Tally.append.Given as goal

abbrev pub invariant-loop-hit : goal.invariant-loop-hit
invariant-loop-hit l =
    l.self
    ≡ record l.initial.self { positions = l.initial.self.positions ++ take l.hit-index l.hits }
