use Rattle.std.proofs.Common.{sym, ◌∙◌, subst}
use mathlib.Core.Option.{none}
use Rattle.atomic_table.specs.Table.{step, Allows}
use Rattle.tk_board.specs.Rules.{Kept, Checked}
use Rattle.tk_board.proofs.Moves.{checks}
use Rattle.tk_board.proofs.tally.Tally.check.Goals as goal

pub load-requires : goal.load-requires
load-requires g c =
    let t = c.self.inside.words.shared.table_id in
    let p = c.args.claim.now in
    let look = step t.slots 0 0 0 none in (
      c.requires.0 ∙ sym c.self.view_is,
      c.self.invariant,
      subst (λ m. Allows Kept t.slots p.id m 0 (λ n. n) (Checked look m)) (sym c.requires.1)
          (checks t.slots p.id p.me.0.seen look),
    )
