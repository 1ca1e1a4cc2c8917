use Rattle.std.proofs.Common.{true, sym, ap, ◌∙◌, subst}
use Rattle.atomic_table.specs.Table as table
use Rattle.tk_board.specs.Rules.{Kept, whole, drafting, given_up, blank}
use Rattle.tk_board.proofs.Moves.{withdraws}
use Rattle.tk_board.proofs.tally.Tally.withdraw.Goals as goal

pub join_seat-requires : goal.join_seat-requires
join_seat-requires g c =
    let p = c.args.place.now in
    let o = c.args.claim in
    let is = ap (λ m. m.0) c.requires.plan.0 in
    let its = ap (λ m. m.0) c.requires.claim in (
      c.requires.table.0 ∙ sym c.self.view_is,
      c.requires.table.1 ∙ sym c.self.view_is,
      ap (λ m. m.1) c.requires.claim,
      c.self.invariant,
      subst (λ v. table.Joins Kept p.id v o.id o.me.0 (given_up v) blank) (sym is)
          (subst
          (λ w. table.Joins Kept p.id (drafting p.me.0.seen p.me.0.plan true) o.id w
          (whole p.me.0.seen) blank)
          (sym its)
          (withdraws p.id p.me.0.seen p.me.0.plan o.id c.requires.plan.1)),
    )
