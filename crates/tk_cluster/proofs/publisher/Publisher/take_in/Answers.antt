-- It has seen more, and ordered nothing.
use Rattle.tk_cluster.proofs.Telling.{seen_more}
use Rattle.tk_cluster.proofs.publisher.Publisher.take_in.Goals as goal

pub invariant_of-self : goal.invariant_of-self
invariant_of-self g c =
    let s = c.self.inside in
    let e = c.join.ensures in
    seen_more g.B.Naming.shape s.seat s.board s.marked s.ordered s.shown c.self.invariant
    c.join.new.seat e.number e.mine e.own c.legal.ensures.order
