use Rattle.std.proofs.Common.{sym, ◌∙◌}
use Rattle.tk_board.proofs.Moves.{notes}
use Rattle.tk_board.proofs.tally.Tally.note.Goals as goal

pub split_seat-requires : goal.split_seat-requires
split_seat-requires g c =
    let p = c.args.place.now in
    (c.requires.0 ∙ sym c.self.view_is, c.self.invariant, notes p.id p.me.0 c.requires.1)
