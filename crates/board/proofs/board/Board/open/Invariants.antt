-- As many servers are open as the loop has counted.
use Rattle.std.proofs.Common.{◌≡◌, [], length}
use Rattle.std.specs.Prelude.{All}
use Rattle.tk_replica.specs.Replica.{StandsFor}
use Rattle.board.proofs.board.Board.open.Given as goal

abbrev pub invariant-loop : goal.invariant-loop
invariant-loop l =
    record {
      counted : length l.servers.items ≡ l.counter;
      opened : All (StandsFor l.shape []) l.servers.items;
    }
