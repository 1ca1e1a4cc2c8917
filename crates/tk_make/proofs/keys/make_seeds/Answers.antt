-- One more seed stands after the others.
use Rattle.tk_make.specs.Making.{made_seed}
use Rattle.tk_make.proofs.Ranges.{map_next}
use Rattle.tk_make.proofs.keys.make_seeds.Goals as goal

pub loop-client-preserved : goal.loop-client-preserved
loop-client-preserved c =
    map_next (made_seed c.args.root.now) c.loop-client.client c.loop-client.invariant
    c.in_ok-push.ensures.items c.seed_of.ensures
