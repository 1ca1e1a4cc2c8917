-- Each pass stays that of its client.
use Rattle.tk_cluster.proofs.Offers.{met_stays}
use Rattle.tk_cluster_tests.proofs.thread_tests.met.Goals as goal

pub returns-clause-passes : goal.returns-clause-passes
returns-clause-passes g c =
    met_stays c.meet.new.publisher.seen c.args.passes.now c.meet.new.passes c.meet.ensures.passes
