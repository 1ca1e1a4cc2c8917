-- What is kept of the entries that were applied is so of the whole list.
use Rattle.std.proofs.Common.{◌<◌, ◌≤◌, ap, subst, arith, IfOk, MatchOption}
use Rattle.std.specs.Arc.{arc_value}
use Rattle.tk_replica.specs.Following.{Following, marks_among, IsEpochAt}
use Rattle.tk_replica.proofs.Following.{following-kept}
use Rattle.tk_replica.proofs.followed.Followed.kept.Goals as goal

pub returns : goal.returns
returns g c =
    let f = c.self.inside in
    let shape = g.B.Naming.shape in
    let upto = c.args.upto in
    let within : upto ≤ f.state.applied =
    omega (arith, c.requires, ap (λ x. x.state.applied) c.self.view_is) in
    subst (λ (x : Following). IfOk c.latest.result
    (λ o. MatchOption o (marks_among upto x.list < x.state.floor)
    (λ e. IsEpochAt shape x.list upto (arc_value e)))) c.self.view_is
    (following-kept (λ e. arc_value e) shape f.state f.seat upto c.latest.result c.self.invariant
    c.legal.ensures.order within
    (c.latest.ensures shape _ (c.self.invariant).stands))
