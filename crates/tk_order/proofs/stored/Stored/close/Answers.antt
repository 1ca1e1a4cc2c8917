use Rattle.std.proofs.Common.{◌≡◌, ap, ◌∙◌, sym, map, length}
use Rattle.std.proofs.lemmas.List.{length-map}
use Rattle.std.specs.Arc.{arc_value}
use Rattle.tk_order.specs.Rules.{gathered}
use Rattle.tk_order.proofs.Growing.{gathers_on, gathers_still, whole, whole_legal}
use Rattle.tk_order.proofs.stored.Stored.close.Goals as goal

pub loop-seat-preserved : goal.loop-seat-preserved
loop-seat-preserved g c =
    let i = c.loop-seat.invariant in
    let p = c.into_place.ensures in
    let q = c.gather.ensures in
    let l = c.look.ensures in
    let a = c.loop-seat.place in
    gathers_on g.B.Naming.table g.B.Naming.shape _ c.loop-seat.yielded c.in-Some.seat a c.look.new.place c.gather.new.place.me.0 c.look.result i
    (ap (λ m. m.0) q.1 ∙ ap (λ m. gathered a.me.0 m.0) p.1) l.0 l.1.0 (l.1.1 ∙ (ap (λ m. m.1) q.1 ∙ i.free))

pub returns-then-look-len : goal.returns-then-look-len
returns-then-look-len g c =
    let i = c.loop.invariant in
    let l = c.look-in-loop.ensures in
    let n : c.look-in-loop.result ≡ length (map (λ a. arc_value a) c.self.inside.entries.items) = c.if-look-len.true ∙ (c.len.ensures ∙ (c.self.inside.entries.ok.0 ∙ sym (length-map c.self.inside.entries.items (λ a. arc_value a)))) in
    record {
      whole = whole g.B.Naming.table g.B.Naming.shape _ c.args.seats.items c.loop.place c.look-in-loop.new.place c.look-in-loop.result i l.1.0 n;
      legal = whole_legal g.B.Naming.table g.B.Naming.shape _ c.args.seats.items c.loop.place c.look-in-loop.new.place c.look-in-loop.result i l.1.0 n;
    }

pub loop-preserved : goal.loop-preserved
loop-preserved g c =
    let i = c.loop.invariant in
    let l = c.look-in-loop.ensures in
    gathers_still g.B.Naming.table g.B.Naming.shape _ c.args.seats.items c.loop.place c.look-in-loop.new.place c.look-in-loop.result i l.0 l.1.0 (l.1.1 ∙ i.free)
