use Rattle.std.proofs.Common.{sym, ◌∙◌, arith}
use mathlib.Core.Option.{none}
use Rattle.atomic_table.specs.Table.{step}
use Rattle.tk_order.proofs.Moves.{meets}
use Rattle.tk_order.proofs.counts.Counts.meet.Goals as goal

pub load-requires : goal.load-requires
load-requires g c =
    let counts = c.args.self.now in
    let t = counts.words.shared.table_id in
    let p = c.args.place.now in
    (c.requires ∙ sym counts.is, omega (arith, counts.two), meets counts.words.shared.key t.slots p.id p.me (step t.slots 0 0 0 none))
