-- The set of the mark that was left is shown.
use Rattle.std.proofs.Common.{◌≡◌, ◌+◌, length, subst, sym}
use Rattle.std.specs.Arc.{arc_value}
use Rattle.tk_order.specs.Legality.{of}
use Rattle.tk_cluster.specs.Sets.{StandsAtMark}
use Rattle.tk_cluster.specs.Tellings.{Telling, Published}
use Rattle.tk_cluster.proofs.Telling.{telling, one_left, shown_on, published}
use Rattle.tk_cluster.proofs.publisher.Publisher.show.Goals as goal

pub invariant_of-self-2 : goal.invariant_of-self-2
invariant_of-self-2 g c =
    let s = c.self.inside in
    let shape = g.B.Naming.shape in
    let left : s.ordered ≡ s.shown + 1 =
    one_left shape s.seat s.board s.marked s.ordered s.shown c.self.invariant
    (subst (λ (p : Telling). length (of 0 p.seen) ≡ length p.shown) (sym c.self.view_is)
    c.requires.due) in
    shown_on shape s.seat s.board s.marked s.ordered s.shown c.self.invariant c.show.new.self
    (arc_value c.args.set) left
    (subst (λ (p : Telling). StandsAtMark shape p.seen (length p.shown) (arc_value c.args.set))
    (sym c.self.view_is) c.requires.stands) c.in-Ok.ensures.ok.1

pub returns-clause-published : goal.returns-clause-published
returns-clause-published g c =
    let s = c.self.inside in
    let shape = g.B.Naming.shape in
    let left : s.ordered ≡ s.shown + 1 =
    one_left shape s.seat s.board s.marked s.ordered s.shown c.self.invariant
    (subst (λ (p : Telling). length (of 0 p.seen) ≡ length p.shown) (sym c.self.view_is)
    c.requires.due) in
    subst (λ (p : Telling). Published shape p (telling s.seat.seen c.show.new.self))
    c.self.view_is
    (published shape s.seat s.board s.marked s.ordered s.shown c.self.invariant c.show.new.self
    (arc_value c.args.set) c.in-Ok.ensures.ok.0 left
    (subst (λ (p : Telling). StandsAtMark shape p.seen (length p.shown) (arc_value c.args.set))
    (sym c.self.view_is) c.requires.stands) c.in-Ok.ensures.ok.1)
