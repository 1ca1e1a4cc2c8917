use Rattle.std.proofs.Common.{◌≡◌}
use Rattle.tk_board.proofs.ledger.lay_all.Given as goal

abbrev pub invariant-loop-reader : goal.invariant-loop-reader
invariant-loop-reader g l =
    (l.place.table_id ≡ l.tally) × (l.place.me ≡ l.initial.place.me)
