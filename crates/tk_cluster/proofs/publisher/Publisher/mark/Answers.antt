-- One mark more stands, or none was ordered.
use Rattle.std.proofs.Common.{◌+◌, refl, subst}
use Rattle.tk_cluster.specs.Tellings.{Telling, Grows}
use Rattle.tk_cluster.proofs.Telling.{telling, seen_more, marked_on, marked_grows}
use Rattle.tk_cluster.proofs.publisher.Publisher.mark.Goals as goal

pub invariant_of-self : goal.invariant_of-self
invariant_of-self g c =
    let s = c.self.inside in
    let e = c.in_err-self-inside.ensures.err in
    seen_more g.B.Naming.shape s.seat s.board s.marked s.ordered s.shown c.self.invariant
    c.append-position.new.seat e.number e.seen e.own c.legal.ensures.order

pub invariant_of-self-2 : goal.invariant_of-self-2
invariant_of-self-2 g c =
    let s = c.self.inside in
    let e = c.in_ok-self-inside.ensures in
    marked_on g.B.Naming.shape s.seat s.board s.marked s.ordered s.shown c.self.invariant
    c.append-position.new.seat (s.shown + 1) c.in_ok-self-inside.field-0 refl c.if-self.false
    e.ordered e.last c.legal.ensures.order

pub returns-clause-grows : goal.returns-clause-grows
returns-clause-grows g c =
    let s = c.self.inside in
    let t = c.append-position.new.seat in
    subst (λ (p : Telling). Grows p (telling t.seen s.board)) c.self.view_is
    (marked_grows g.B.Naming.shape s.seat s.board s.marked s.ordered s.shown c.self.invariant t
    (s.shown + 1) c.in_ok-self-inside.ensures.ordered)
