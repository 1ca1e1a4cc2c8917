-- The mark was ordered, and then its set, which several threads made, was shown.
use Rattle.std.proofs.Common.{subst, sym}
use Rattle.std.proofs.lemmas.Result.{on_ok_weaker}
use Rattle.tk_cluster.specs.Tellings.{Telling, Grows}
use Rattle.tk_cluster.proofs.Telling.{published_on}
use Rattle.tk_cluster.proofs.publisher.Publisher.publish_with.Goals as goal

pub returns-clause-published : goal.returns-clause-published
returns-clause-published g c =
    on_ok_weaker c.show.result
    (published_on g.B.Naming.shape c.args.self.now c.due_with.new.self c.show.new.self
    (subst (λ (p : Telling). Grows c.args.self.now p) (sym c.due_with.ensures.same)
    c.in_ok-mark.ensures.grows)) c.show.ensures.published
