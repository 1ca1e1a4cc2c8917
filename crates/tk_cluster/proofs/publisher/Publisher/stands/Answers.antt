-- It is kept.
use Rattle.std.proofs.Common.{subst}
use Rattle.tk_cluster.specs.Sets.{AreShown}
use Rattle.tk_cluster.specs.Tellings.{Telling}
use Rattle.tk_cluster.proofs.publisher.Publisher.stands.Goals as goal

pub returns-clause-shows : goal.returns-clause-shows
returns-clause-shows g c =
    subst (λ (p : Telling). AreShown g.B.Naming.shape p.shown p.seen) c.self.view_is
    c.self.invariant.shows
