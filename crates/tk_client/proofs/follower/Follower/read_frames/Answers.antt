-- A search for what to read next leaves the logs that are followed.
use Rattle.std.proofs.Common.{sym, subst}
use Rattle.tk_client.specs.Reader.{Reader}
use Rattle.tk_client.specs.Searching.{AreBelow}
use Rattle.tk_client.proofs.follower.Follower.read_frames.Goals as goal

pub invariant_of-self-2 : goal.invariant_of-self-2
invariant_of-self-2 g c =
    subst (λ (r : Reader). AreBelow c.self.inside.shape.logs r.follows)
    (sym c.target-wanted.ensures.same) c.self.invariant
