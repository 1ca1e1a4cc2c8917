-- It holds the newest set where the number of that is small enough.
use Rattle.std.proofs.Common.{◌≡◌, ◌∙◌, ◌≤◌, ◌++◌, ◌∷◌, [], List, subst, sym, ap, arith}
use Rattle.std.specs.Arc.{arc_value}
use Rattle.tk_cluster.specs.declared.set.EpochSet.{EpochSet}
use Rattle.tk_cluster.specs.Passes.{Passing, ReadsOnly, Pins, Knows}
use Rattle.tk_cluster.proofs.Passing.{passing, reading, reads_on, on_err, still, renewed, knows, pins_held, pins_newest}
use Rattle.tk_cluster.proofs.pass.Pass.pin.Goals as goal

pub returns-in_err-answer-clause-err : goal.returns-in_err-answer-clause-err
returns-in_err-answer-clause-err g c =
    let s = c.self.inside in
    on_err c.from_residual-in_err-answer.result
    (subst (λ (a : Passing). ReadsOnly Knows a
    (passing s.client s.seat.seen
    (reading c.look.new.self (arc_value s.held) c.reserve.new.self.items))) c.self.view_is
    (reads_on Knows s.client s.seat.seen (reading s.reader (arc_value s.held) s.pinned.items)
    (reading c.look.new.self (arc_value s.held) c.reserve.new.self.items)
    (knows g.B.Naming.shape s.seat s.client s.reader c.look.new.self s.held c.self.invariant
    s.pinned.items c.reserve.new.self.items c.in-Ok.ensures.known
    c.in_ok-reserve.ensures.items)))

pub invariant_of-self-then-number-most : goal.invariant_of-self-then-number-most
invariant_of-self-then-number-most g c =
    let s = c.self.inside in
    renewed g.B.Naming.shape s.seat s.client s.reader c.look.new.self s.held c.self.invariant
    c.in-Ok.newest c.fits.ensures c.in-Ok.ensures.last

pub returns-then-number-most-clause-ok : goal.returns-then-number-most-clause-ok
returns-then-number-most-clause-ok g c =
    let s = c.self.inside in
    let newest = arc_value c.in-Ok.newest in
    let number : c.number-number.result ≡ newest.number =
    c.number-number.ensures ∙ ap (λ (x : EpochSet). x.number) c.deref.ensures in
    let answer = arc_value c.in_ok-answer.answer in
    let after = reading c.look.new.self newest c.push_reserved.new.self.items in
    subst (λ (a : Passing). ReadsOnly (λ a b. Pins a c.args.most answer b) a
    (passing s.client s.seat.seen after)) c.self.view_is
    (reads_on (λ a b. Pins a c.args.most answer b) s.client s.seat.seen
    (reading s.reader (arc_value s.held) s.pinned.items) after
    (pins_newest g.B.Naming.shape s.seat s.client s.reader c.look.new.self s.held
    c.self.invariant c.args.most newest (arc_value c.in_ok-answer.answer)
    s.pinned.items c.push_reserved.new.self.items c.in-Ok.ensures.known c.fits.ensures
    c.in-Ok.ensures.last (omega (arith, number, c.if-number-most.true))
    c.in_ok-answer.ensures
    (c.push_reserved.ensures.items
    ∙ (ap (λ (xs : List _). xs ++ c.number-number.result ∷ []) c.in_ok-reserve.ensures.items
    ∙ ap (λ n. s.pinned.items ++ n ∷ []) number))))

pub invariant_of-self-in_err-answer-2 : goal.invariant_of-self-in_err-answer-2
invariant_of-self-in_err-answer-2 g c =
    let s = c.self.inside in
    still g.B.Naming.shape s.seat s.client s.reader c.look.new.self s.held c.self.invariant
    c.in-Ok.ensures.known.list

pub returns-in_err-answer-2-clause-err : goal.returns-in_err-answer-2-clause-err
returns-in_err-answer-2-clause-err g c =
    let s = c.self.inside in
    on_err c.from_residual-in_err-answer-2.result
    (subst (λ (a : Passing). ReadsOnly Knows a
    (passing s.client s.seat.seen
    (reading c.look.new.self (arc_value s.held) c.reserve.new.self.items))) c.self.view_is
    (reads_on Knows s.client s.seat.seen (reading s.reader (arc_value s.held) s.pinned.items)
    (reading c.look.new.self (arc_value s.held) c.reserve.new.self.items)
    (knows g.B.Naming.shape s.seat s.client s.reader c.look.new.self s.held c.self.invariant
    s.pinned.items c.reserve.new.self.items c.in-Ok.ensures.known
    c.in_ok-reserve.ensures.items)))

pub invariant_of-self-2 : goal.invariant_of-self-2
invariant_of-self-2 g c =
    let s = c.self.inside in
    still g.B.Naming.shape s.seat s.client s.reader c.look.new.self s.held c.self.invariant
    c.in-Ok.ensures.known.list

pub returns-clause-ok : goal.returns-clause-ok
returns-clause-ok g c =
    let s = c.self.inside in
    let held = arc_value s.held in
    let small : held.number ≤ c.args.most =
    subst (λ (a : Passing). a.reads.known ≤ c.args.most) (sym c.self.view_is) c.requires in
    let number : c.number.result ≡ held.number =
    c.number.ensures ∙ ap (λ (x : EpochSet). x.number) c.deref-2.ensures in
    let answer = arc_value c.in_ok-answer-2.answer in
    let after = reading c.look.new.self held c.push_reserved-2.new.self.items in
    subst (λ (a : Passing). ReadsOnly (λ a b. Pins a c.args.most answer b) a
    (passing s.client s.seat.seen after)) c.self.view_is
    (reads_on (λ a b. Pins a c.args.most answer b) s.client s.seat.seen
    (reading s.reader (arc_value s.held) s.pinned.items) after
    (pins_held g.B.Naming.shape s.seat s.client s.reader c.look.new.self s.held
    c.self.invariant c.args.most (arc_value c.in_ok-answer-2.answer)
    s.pinned.items c.push_reserved-2.new.self.items c.in-Ok.ensures.known small
    c.in_ok-answer-2.ensures
    (c.push_reserved-2.ensures.items
    ∙ (ap (λ (xs : List _). xs ++ c.number.result ∷ []) c.in_ok-reserve.ensures.items
    ∙ ap (λ n. s.pinned.items ++ n ∷ []) number))))
