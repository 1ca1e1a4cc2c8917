use Rattle.std.proofs.Common.{◌≡◌}
use Rattle.tk_board.specs.Boards.{AllBegin}
use Rattle.tk_board.proofs.ledger.Ledger.gather_all.Given as goal

abbrev pub invariant-loop-reader : goal.invariant-loop-reader
invariant-loop-reader g l =
    (l.self ≡ l.initial.self) × AllBegin l.yielded l.initial.self.list
