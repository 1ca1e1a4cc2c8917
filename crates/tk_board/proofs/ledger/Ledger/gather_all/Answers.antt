use Rattle.std.proofs.Common.{rules, subst}
use mathlib.Core.List.{IsPrefix}
use Rattle.tk_board.proofs.Knowing.{begin_snoc}
use Rattle.tk_board.proofs.ledger.Ledger.gather_all.Goals as goal

pub loop-reader-preserved : goal.loop-reader-preserved
loop-reader-preserved g c =
    let i = c.loop-reader.invariant in
    let reader = c.in-Some.reader in (
      search rules,
      begin_snoc c.loop-reader.yielded reader c.args.self.now.list i.1
          (subst (λ b. IsPrefix reader.list b.list) i.0 c.gather.ensures.begins),
    )
