use Rattle.std.proofs.Common.{◌+◌, ◌==◌, sym, ◌∙◌, subst, arith}
use prog.Atomic.{either}
use mathlib.Core.Option.{some}
use Rattle.atomic_table.specs.Table.{step, Allows}
use Rattle.tk_shape.specs.declared.shape.Shape.{Shape}
use Rattle.tk_order.specs.Rules.{Kept, Appended}
use Rattle.tk_order.proofs.Moves.{appends}
use Rattle.tk_order.proofs.counts.Counts.append.Goals as goal

pub compare_exchange_with-requires : goal.compare_exchange_with-requires
compare_exchange_with-requires g c =
    let counts = c.args.self.now in
    let t = counts.words.shared.table_id in
    let p = c.args.place.now in
    let L = g.B.Naming.shape in
    let old = c.args.old in
    let e = c.args.entry.now in (
      c.requires.own ∙ sym counts.is,
      omega (arith, counts.two),
      subst (λ (shape : Shape). Allows (Kept shape) t.slots p.id p.me 0 (λ n. either (n == old) (old + 1) n) (Appended L (step t.slots 0 old (old + 1) (some e)) p.me)) (sym counts.key)
          (appends L t.slots p.id p.me.0 p.me.1 c.requires.may.own old e c.requires.may.claims c.requires.may.may c.requires.at),
    )
