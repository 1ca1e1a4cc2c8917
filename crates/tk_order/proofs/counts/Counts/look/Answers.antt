use Rattle.std.proofs.Common.{sym, ◌∙◌, subst, arith}
use mathlib.Core.Option.{none}
use Rattle.atomic_table.specs.Table.{step, Allows}
use Rattle.tk_shape.specs.declared.shape.Shape.{Shape}
use Rattle.tk_order.specs.Rules.{Kept, Looked}
use Rattle.tk_order.proofs.Moves.{looks}
use Rattle.tk_order.proofs.counts.Counts.look.Goals as goal

pub load-requires : goal.load-requires
load-requires g c =
    let counts = c.args.self.now in
    let t = counts.words.shared.table_id in
    let p = c.args.place.now in
    let L = g.B.Naming.shape in (
      c.requires ∙ sym counts.is,
      omega (arith, counts.two),
      subst (λ (shape : Shape). Allows (Kept shape) t.slots p.id p.me 0 (λ n. n) (Looked L (step t.slots 0 0 0 none) p.me)) (sym counts.key) (looks L t.slots p.id p.me (step t.slots 0 0 0 none)),
    )
