-- What one more log gave is counted, and at the end all is.
use Rattle.std.proofs.Common.{◌≡◌, ◌∙◌, ℕ, ap, arith}
use Rattle.std.specs.Prelude.{sum_by}
use Rattle.std.specs.List.{range_with_len}
use Rattle.tk_make.specs.Tallies.{given_by}
use Rattle.tk_make.proofs.Ranges.{sum_next}
use Rattle.tk_make.proofs.given.given.Goals as goal

pub loop-log-preserved : goal.loop-log-preserved
loop-log-preserved c =
    let o = c.args.outcome.now in
    sum_next (given_by o.roles o.clients c.args.kind) c.loop-log.log c.loop-log.invariant
    c.in_ok-sum.ensures c.in_ok-given_by.ensures

pub returns : goal.returns
returns c =
    let o = c.args.outcome.now in
    let end : c.loop-log.log ≡ o.shape.logs = omega arith in
    c.loop-log.invariant
    ∙ ap (λ (n : ℕ). sum_by (given_by o.roles o.clients c.args.kind) (range_with_len 0 n)) end
