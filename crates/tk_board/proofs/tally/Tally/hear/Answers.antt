use Rattle.std.proofs.Common.{sym, ap, ◌∙◌}
use Rattle.tk_board.proofs.Moves.{hears}
use Rattle.tk_board.proofs.tally.Tally.hear.Goals as goal

pub join_seat-requires : goal.join_seat-requires
join_seat-requires g c =
    let p = c.args.place.now in
    let o = c.args.other in
    let note = c.requires.notes.1 in (
      c.requires.table.0 ∙ sym c.self.view_is,
      c.requires.table.1 ∙ sym c.self.view_is,
      ap (λ m. m.1) note,
      c.self.invariant,
      hears p.id p.me.0 o.id o.me.0 (ap (λ m. m.0.sure) note),
    )
