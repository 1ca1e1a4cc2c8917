use Rattle.std.proofs.Common.{◌+◌, ◌==◌, sym, ◌∙◌, subst}
use prog.Atomic.{either}
use mathlib.Core.Option.{none}
use Rattle.atomic_table.specs.Table.{step, Allows}
use Rattle.tk_board.specs.Rules.{Kept, Extended}
use Rattle.tk_board.proofs.Moves.{extends}
use Rattle.tk_board.proofs.tally.Tally.extend.Goals as goal

pub compare_exchange-requires : goal.compare_exchange-requires
compare_exchange-requires g c =
    let t = c.self.inside.words.shared.table_id in
    let p = c.args.place.now in
    let old = c.args.count in (
      c.requires.table ∙ sym c.self.view_is,
      c.self.invariant,
      subst
          (λ m. Allows Kept t.slots p.id m 0 (λ n. either (n == old) (old + 1) n)
          (Extended (step t.slots 0 old (old + 1) none) m))
          (sym c.requires.plan.0)
          (extends t.slots p.id p.me.0.seen p.me.0.plan old c.requires.plan.1 c.requires.count.0
          c.requires.count.1),
    )
