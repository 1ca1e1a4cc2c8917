-- After the last turn all have read.
use Rattle.tk_hostile.specs.Given.{sums_at}
use Rattle.tk_hostile.proofs.FollowingLaws.{clients-at_end}
use Rattle.tk_hostile.proofs.logs_got.wrong_logs.Goals as goal

pub returns : goal.returns
returns c =
    clients-at_end c.args.script.now _ c.args.history.now c.args.hidden (sums_at c.args.replies.now)
    c.in_ok-fold.fold.group.clients.items c.in_ok-fold.ensures.group.clients
