use Rattle.std.proofs.Common.{◌==◌, Some, sym, ◌∙◌, subst}
use prog.Atomic.{either}
use mathlib.Core.Option.{some}
use Rattle.atomic_table.specs.Table.{step, Allows}
use Rattle.tk_board.specs.Rules.{Kept, Proposed}
use Rattle.tk_board.proofs.Moves.{proposes}
use Rattle.tk_board.proofs.tally.Tally.propose.Goals as goal

pub compare_exchange_with-requires : goal.compare_exchange_with-requires
compare_exchange_with-requires g c =
    let t = c.self.inside.words.shared.table_id in
    let p = c.args.place.now in
    let old = c.args.count in
    let y = c.requires.said.0 in
    let meaning = g.T.Share.meaning in (
      c.requires.table ∙ sym c.self.view_is,
      c.self.invariant,
      subst
          (λ z. Allows Kept t.slots p.id p.me 0 (λ n. either (n == old) old n)
          (Proposed meaning (step t.slots 0 old old (some z)) p.me))
          (sym c.requires.said.1)
          (subst
          (λ m. Allows Kept t.slots p.id m 0 (λ n. either (n == old) old n)
          (Proposed meaning (step t.slots 0 old old (some (Some y))) m))
          (sym c.requires.whole.0)
          (proposes meaning t.slots p.id p.me.0.seen old y c.requires.whole.1)),
    )
