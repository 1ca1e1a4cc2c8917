use Rattle.std.proofs.Common.{◌≡◌, All, vec_len}
use Rattle.left_right.specs.Sides.{view}
use Rattle.tk_board.proofs.publisher.readers_of.Given as goal

abbrev pub invariant-loop-index : goal.invariant-loop-index
invariant-loop-index g l =
    (l.ledger ≡ l.initial.ledger) × (l.stage.desk.shown ≡ l.initial.stage.desk.shown)
    × (l.stage.log ≡ l.initial.stage.log) × (l.stage.behind ≡ l.initial.stage.behind)
    × (view l.stage.desk.place ≡ view l.initial.stage.desk.place) × (vec_len l.all ≡ l.index)
    × All (λ k. (k.board ≡ l.initial.ledger.board) × (k.list ≡ l.initial.ledger.list)) l.all.items
