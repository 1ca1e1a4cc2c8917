-- What the log gave to the followers so far is counted.
use Rattle.std.proofs.Common.{◌≡◌, take, count_by}
use Rattle.std.specs.Prelude.{sum_by}
use Rattle.tk_report.specs.Leaving.{got_by}
use Rattle.tk_make.specs.Tallies.{is_of}
use Rattle.tk_make.proofs.given.given_by.Given as goal

abbrev pub invariant-loop-client : goal.invariant-loop-client
invariant-loop-client l =
    l.sum
    ≡ sum_by (λ c. count_by (is_of l.kind) (got_by l.outcome.clients c l.log))
    (take l.client-index l.followers)
