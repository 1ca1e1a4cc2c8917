use Rattle.std.proofs.Common.{sym, ◌∙◌}
use Rattle.tk_board.proofs.Moves.{stakes}
use Rattle.tk_board.proofs.tally.Tally.stake.Goals as goal

pub split_seat-requires : goal.split_seat-requires
split_seat-requires g c =
    let p = c.args.place.now in
    (c.requires.0 ∙ sym c.self.view_is, c.self.invariant, stakes p.id p.me.0 c.requires.1)
