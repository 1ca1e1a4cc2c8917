-- The logs that are followed are the shape's.
use Rattle.std.proofs.Common.{◌<◌}
use Rattle.std.proofs.lemmas.List.Elements.{All-map}
use Rattle.tk_client.specs.Reader.{Follow, new_follow}
use Rattle.tk_client.proofs.follower.Follower.open.Goals as goal

pub invariant_of-result : goal.invariant_of-result
invariant_of-result c =
    let logs = c.args.shape.now.logs in
    rw c.in_ok-new.ensures
    (All-map (λ (f : Follow). f.log < logs) new_follow c.args.follows.now c.requires.follows_in)
