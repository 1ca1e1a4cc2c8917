use Rattle.std.proofs.Common.{◌≡◌, length, Some, sym, ap, ◌∙◌, subst, arith}
use Rattle.tk_order.specs.Legality.{seat_of, of, MayFollow}
use Rattle.tk_order.specs.Seats.{own_in, own, claims_of, Seated}
use Rattle.tk_order.proofs.Legal.{ordered_few}
use Rattle.tk_order.proofs.seat.OrderSeat.append.Goals as goal

pub append-found-requires-clause-may : goal.append-found-requires-clause-may
append-found-requires-clause-may g c =
    let p = c.args.entry.now in
    let inside = c.self.inside in
    let seen = inside.place.me.0.seen in
    let shape = g.B.Naming.shape in
    let number : inside.number ≡ Some (seat_of p) =
    ap (λ s. s.number) c.self.view_is ∙ c.requires.seat in
    let claims =
    ap (λ m. m.0.claims) c.learn.ensures.1 ∙
    (c.self.invariant.claims ∙ ap (λ n. claims_of n seen) number) in
    let mine : own_in inside.number seen ≡ of (seat_of p) seen = ap (λ n. own_in n seen) number in
    let may : MayFollow shape (own_in inside.number seen) p.entry =
    subst (λ (s : Seated). MayFollow shape (own s) p.entry) (sym c.self.view_is) c.requires.may in
    record {
      own = of (seat_of p) seen;
      claims = claims;
      may = subst (λ E. MayFollow shape E p.entry) mine may;
    }

pub overflow_add-self-then-found-count : goal.overflow_add-self-then-found-count
overflow_add-self-then-found-count g c =
    let shape = g.B.Naming.shape in
    let few = ordered_few shape (own c.args.self.now) c.args.entry.now.entry c.requires.may in
    let made : c.self.inside.ordered ≡ length (own c.args.self.now) =
    c.self.invariant.made ∙ ap (λ (s : Seated). length (own s)) c.self.view_is in
    omega (arith, few, made)
