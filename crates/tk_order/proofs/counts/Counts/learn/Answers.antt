use Rattle.std.proofs.Common.{sym, ◌∙◌, arith}
use Rattle.tk_order.proofs.Moves.{learns}
use Rattle.tk_order.proofs.counts.Counts.learn.Goals as goal

pub join_seat-requires : goal.join_seat-requires
join_seat-requires g c =
    let counts = c.args.self.now in
    let p = c.args.place.now in
    let o = c.args.other in
    let own = c.requires in
    (own.0 ∙ sym counts.is, own.1 ∙ sym counts.is, own.2, omega (arith, counts.two), learns counts.words.shared.key p.id p.me.0 o.id o.me.0)
