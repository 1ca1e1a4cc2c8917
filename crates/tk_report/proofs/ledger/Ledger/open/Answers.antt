-- The first marks are of no writes.
use Rattle.std.proofs.Common.{[], ◌∙◌, sym, subst, refl}
use Rattle.tk_table.specs.Stands.{Kept}
use Rattle.tk_report.specs.Ledgers.{Keeps, IsTakenOf}
use Rattle.tk_report.specs.declared.ledger.Ledger.{Ledger}
use Rattle.tk_report.proofs.LedgerLaws.{keeps-none}
use Rattle.tk_report.proofs.ledger.Ledger.open.Goals as goal

pub returns : goal.returns
returns c =
    let count = c.in_ok-count.count in
    let window = c.in_ok-window.window in
    let newest = c.in_ok-newest.newest in
    let older = c.in_ok-older.older in
    let kept = c.in_ok-newest.ensures.kept in
    let with_table : Kept → Ledger =
    λ t. record {
      count = record count { table = t };
      window = window;
      last = 0;
      newest = newest;
      older = older;
    }
    in
    subst (λ (t : Kept). Keeps c.args.shape.now [] (with_table t))
    (sym (c.in_ok-older.ensures.kept ∙ kept))
    (keeps-none c.args.shape.now (with_table count.table) c.in_ok-count.ensures
    c.in_ok-window.ensures refl c.in_ok-newest.ensures.taken
    (subst (λ (t : Kept). IsTakenOf t window older) kept c.in_ok-older.ensures.taken))
