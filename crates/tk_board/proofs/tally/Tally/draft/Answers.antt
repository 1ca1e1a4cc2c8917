use Rattle.std.proofs.Common.{sym, ap, ◌∙◌, subst}
use Rattle.atomic_table.specs.Table.{Splits}
use Rattle.tk_board.specs.Rules.{Kept, claimed, sent_out}
use Rattle.tk_board.proofs.Moves.{drafts}
use Rattle.tk_board.proofs.tally.Tally.draft.Goals as goal

pub split_seat-requires : goal.split_seat-requires
split_seat-requires g c =
    let p = c.args.place.now in
    let is = ap (λ m. m.0) c.requires.plan.0 in (
      c.requires.table ∙ sym c.self.view_is,
      c.self.invariant,
      subst (λ v. Splits Kept p.id v (sent_out v) (claimed v.plan)) (sym is)
          (drafts p.id p.me.0.seen p.me.0.plan c.requires.plan.1),
    )
