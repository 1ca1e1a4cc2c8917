use Rattle.std.proofs.Common.{List, ◌-◌, map, take, drop, ap, ◌∙◌, subst, arith}
use Rattle.std.specs.Arc.{arc_value}
use mathlib.Core.List.{IsPrefix}
use Rattle.tk_frames.specs.declared.entry.Placed.{Placed}
use Rattle.tk_order.proofs.Growing.{fetched}
use Rattle.tk_order.proofs.stored.Stored.fetch.Goals as goal

pub returns-clause-ok : goal.returns-clause-ok
returns-clause-ok g c =
    let k = c.learn.ensures in
    let es = c.self.inside.entries.items in
    let part = ap (λ xs. map (λ a. arc_value a) (take (c.args.to - (c.args.from - 1)) (drop (c.args.from - 1) xs))) c.as_slice.ensures.value in
    let noted = ap (λ m. m.0.seen) c.note-note.ensures.3 ∙ c.self.invariant.seen in
    let pre : IsPrefix (map (λ a. arc_value a) es) c.learn.new.self.seen = subst (λ (xs : List Placed). IsPrefix xs c.learn.new.self.seen) noted k.theirs in
    c.in_ok-copied.ensures
    ∙ (part ∙ fetched (λ a. arc_value a) es c.args.seat.now.seen c.learn.new.self.seen (c.args.from - 1) c.args.to pre k.mine (omega (arith, c.requires.from)) (omega (arith, c.if-count-to.false, c.len-count.ensures, c.self.inside.entries.ok.0)) c.requires.to)
