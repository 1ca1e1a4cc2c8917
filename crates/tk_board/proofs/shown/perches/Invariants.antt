use Rattle.std.proofs.Common.{◌≡◌, All}
use Rattle.tk_board.proofs.shown.perches.Given as goal

abbrev pub invariant-loop-made : goal.invariant-loop-made
invariant-loop-made g l = All (λ p. (p.table_id ≡ l.like.table_id) × (p.view ≡ l.like.me.0))
    l.all.items
