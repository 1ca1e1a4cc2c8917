-- One errand more has brought its epoch.
use Rattle.std.proofs.Common.{◌∷◌, [], ◌∙◌, length, length-append, sym}
use Rattle.std.specs.Arc.{arc_value}
use Rattle.tk_lists.proofs.Offers.{length-next}
use Rattle.tk_replica.specs.Following.{IsEpochAt}
use Rattle.tk_cluster.proofs.Brought.{brought-next}
use Rattle.tk_cluster.proofs.servers.epochs_brought.Goals as goal

pub loop-errand-preserved : goal.loop-errand-preserved
loop-errand-preserved g c =
    let before = c.loop-errand.invariant in
    let epochs = c.loop-errand.epochs.items in
    let done = c.loop-errand.yielded in
    let errand = c.in-Some.errand in
    let next = c.in_ok-errand.field-0 in
    let pushed = c.in_ok-push.ensures.items in
    record {
      counted =
          length-next epochs c.push.new.self.items next (length done) pushed before.counted
          ∙ sym (length-append done (errand ∷ []));
      each = λ E upto.
          brought-next (λ a. IsEpochAt g.B.Naming.shape E upto (arc_value a)) (λ e. e.epoch) done
          errand epochs c.push.new.self.items next c.in_ok-errand.was pushed
          (before.each E upto);
    }
