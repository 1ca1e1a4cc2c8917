-- The epoch in all that was seen meanwhile is that in what the seat has seen.
use Rattle.std.specs.Arc.{arc_value}
use Rattle.tk_replica.proofs.Following.{following-back}
use Rattle.tk_replica.proofs.followed.Followed.advance.Goals as goal

pub returns-clause-epoch : goal.returns-clause-epoch
returns-clause-epoch g c =
    following-back (λ e. arc_value e) g.B.Naming.shape c.args.seat.now.seen c.meet.new.self.list
    c.catch_up.new.self.list c.args.upto c.epoch.result c.meet.ensures.sees
    c.in_ok-catch_up.ensures.sees c.in_order.ensures c.requires c.epoch.ensures.epoch
