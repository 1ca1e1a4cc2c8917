-- Each server's epoch was brought.
use Rattle.std.proofs.Common.{◌≡◌, IfOk, length, ap, arith, ◌∙◌}
use Rattle.std.specs.Arc.{arc_value}
use Rattle.std.proofs.lemmas.List.Elements.{All-same}
use Rattle.tk_replica.specs.Following.{IsEpochAt}
use Rattle.tk_cluster.proofs.Brought.{written-back}
use Rattle.tk_cluster.proofs.cluster.Cluster.epochs_with.Goals as goal

pub returns-clause-each : goal.returns-clause-each
returns-clause-each g c =
    let errands = c.in_ok-errands.errands in
    let lent = c.as_mut_slice.ensures.value in
    c.epochs_brought.ensures.each c.args.seat.now.seen c.args.upto
    (All-same
    (λ e. IfOk e.epoch (λ a. IsEpochAt g.B.Naming.shape c.args.seat.now.seen c.args.upto (arc_value a)))
    _ _ (written-back errands.len c.run_all.new.errands errands.items
    (c.run_all.ensures.counted ∙ ap length lent) (omega (arith, errands.ok.0)))
    (c.run_all.ensures.each c.args.seat.now.seen
    (All-same (λ e. e.seat.seen ≡ c.args.seat.now.seen) _ _ lent c.in_ok-errands.ensures.each)))
