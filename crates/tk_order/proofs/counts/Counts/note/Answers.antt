use Rattle.std.proofs.Common.{sym, ◌∙◌, arith}
use Rattle.tk_order.proofs.Moves.{notes}
use Rattle.tk_order.proofs.counts.Counts.note.Goals as goal

pub split_seat-requires : goal.split_seat-requires
split_seat-requires g c =
    let counts = c.args.self.now in
    let p = c.args.place.now in
    (c.requires ∙ sym counts.is, omega (arith, counts.two), notes counts.words.shared.key p.id p.me.0)
