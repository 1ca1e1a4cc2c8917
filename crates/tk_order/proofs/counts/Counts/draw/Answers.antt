use Rattle.std.proofs.Common.{sym, ◌∙◌, arith}
use Rattle.tk_order.proofs.Moves.{draws}
use Rattle.tk_order.proofs.counts.Counts.draw.Goals as goal

pub compare_exchange-requires : goal.compare_exchange-requires
compare_exchange-requires g c =
    let counts = c.args.self.now in
    let t = counts.words.shared.table_id in
    let p = c.args.place.now in
    (c.requires.own ∙ sym counts.is, omega (arith, counts.two), draws counts.words.shared.key t.slots p.id p.me.0 p.me.1 c.args.due c.requires.free)
