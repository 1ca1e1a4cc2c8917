-- The next entry of the list comes next to the state.
use Rattle.std.proofs.Common.{◌≡◌, Some, slice_get, sym, subst}
use Rattle.tk_replica.specs.Following.{Following}
use Rattle.tk_replica.proofs.Following.{following-next, following-either}
use Rattle.tk_replica.proofs.followed.Followed.apply.Goals as goal

pub apply-requires : goal.apply-requires
apply-requires g c =
    let f = c.self.inside in
    let p = c.args.placed.now in
    following-next g.B.Naming.shape f.state f.seat p c.self.invariant c.legal.ensures.order
    (subst (λ (x : Following). slice_get x.list x.state.applied ≡ Some p) (sym c.self.view_is)
    c.requires)

pub invariant_of-self : goal.invariant_of-self
invariant_of-self g c =
    let f = c.self.inside in
    let p = c.args.placed.now in
    following-either g.B.Naming.shape f.state c.apply.new.self f.seat p c.apply.result
    c.self.invariant
    (subst (λ (x : Following). slice_get x.list x.state.applied ≡ Some p) (sym c.self.view_is)
    c.requires)
    (c.apply.ensures.stands g.B.Naming.shape _ (c.self.invariant).stands)
    c.apply.ensures.memory
