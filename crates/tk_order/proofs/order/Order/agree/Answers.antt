use Rattle.std.proofs.Common.{subst}
use mathlib.Core.List.{IsPrefix}
use Rattle.tk_order.specs.Seats.{Seated}
use Rattle.tk_order.proofs.order.Order.agree.Goals as goal

pub returns-clause-list : goal.returns-clause-list
returns-clause-list g c =
    let whole = c.join.new.seat.seen in
    let joined = c.join.ensures in
    record {
      whole = whole;
      one = subst (λ (s : Seated). IsPrefix s.seen whole) c.split-both.ensures.new joined.mine;
      two = subst (λ (s : Seated). IsPrefix s.seen whole) c.split-other.ensures.new joined.theirs;
    }
