-- What was applied begins what the replica's seat has seen.
use Rattle.std.proofs.Common.{◌≡◌, ◌∙◌, ap, subst, List, take}
use Rattle.tk_frames.specs.declared.entry.Placed.{Placed}
use Rattle.tk_order.specs.Seats.{BeginOne}
use Rattle.tk_replica.specs.Following.{applied_in}
use Rattle.tk_replica.proofs.Following.{following-begins}
use Rattle.tk_replica.proofs.held.Held.agree.Goals as goal

pub returns-clause-list : goal.returns-clause-list
returns-clause-list g c =
    let f = c.deref_mut.result.now in
    let applied : take f.state.applied f.list ≡ c.args.self.now =
    ap applied_in c.deref_mut.ensures.value ∙ c.self.view_is in
    subst (λ (E : List Placed). BeginOne E c.args.seat.now.seen) applied
    (following-begins f.state.applied f.list c.args.seat.now.seen c.agree.ensures.list)
