-- One more replica's epoch, of the same mark.
use Rattle.std.proofs.Common.{subst, ◌∙◌}
use Rattle.std.specs.Arc.{arc_value}
use Rattle.std.proofs.lemmas.List.Elements.{All-push, All-same}
use Rattle.tk_order.specs.Seats.{Seated}
use Rattle.tk_replica.specs.Following.{IsEpochAt}
use Rattle.tk_lists.proofs.Offers.{length-next}
use Rattle.tk_cluster.proofs.cluster.Cluster.epochs.Goals as goal

pub loop-replica-preserved : goal.loop-replica-preserved
loop-replica-preserved g c =
    let before = c.loop-replica.invariant in
    let epochs = c.loop-replica.epochs.items in
    let more = c.push.new.self.items in
    let next = c.in_ok-advance.field-0 in
    let pushed = c.in_ok-push.ensures.items in
    record {
      same = c.advance.ensures.seat ∙ before.same;
      counted = length-next epochs more next c.loop-replica.replica-index pushed before.counted;
      each =
          All-same
          (λ a. IsEpochAt g.B.Naming.shape c.args.seat.now.seen c.args.upto (arc_value a))
          more _ pushed
          (All-push
          (λ a. IsEpochAt g.B.Naming.shape c.args.seat.now.seen c.args.upto (arc_value a))
          epochs next before.each
          (subst
          (λ (s : Seated). IsEpochAt g.B.Naming.shape s.seen c.args.upto (arc_value next))
          before.same c.in_ok-advance.ensures.epoch));
    }
