-- What the logs so far gave is counted.
use Rattle.std.proofs.Common.{◌≡◌}
use Rattle.std.specs.Prelude.{sum_by}
use Rattle.std.specs.List.{range_with_len}
use Rattle.tk_make.specs.Tallies.{given_by}
use Rattle.tk_make.proofs.given.given.Given as goal

abbrev pub invariant-loop-log : goal.invariant-loop-log
invariant-loop-log l =
    l.sum ≡ sum_by (given_by l.outcome.roles l.outcome.clients l.kind) (range_with_len 0 l.log)
