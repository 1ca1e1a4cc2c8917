-- What is left has the same last positions.
use Rattle.std.proofs.Common.{◌≡◌, length}
use Rattle.tk_bloom.specs.Windows.{window}
use Rattle.tk_bloom.proofs.tally.Tally.keep_last.Given as goal

abbrev pub invariant-loop-self : goal.invariant-loop-self
invariant-loop-self l =
    record l.self { positions = window l.count l.self.positions }
    ≡ record l.initial.self { positions = window l.count l.initial.self.positions }

abbrev pub decreases-loop-self : goal.decreases-loop-self
decreases-loop-self l = length l.self.positions
