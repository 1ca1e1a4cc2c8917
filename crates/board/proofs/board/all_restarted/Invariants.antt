-- As many servers are made anew as the loop has counted, each to stand for what the others do.
use Rattle.std.proofs.Common.{◌≡◌, List, length}
use Rattle.std.specs.Prelude.{All}
use Rattle.tk_frames.specs.declared.entry.Placed.{Placed}
use Rattle.tk_replica.specs.Replica.{StandsFor}
use Rattle.tk_replica.specs.Restoring.{EndsWithMark}
use Rattle.board.proofs.board.all_restarted.Given as goal

abbrev pub invariant-loop-server : goal.invariant-loop-server
invariant-loop-server l =
    record {
      counted : length l.made.items ≡ l.server-index;
      stand : (E : List Placed) → All (StandsFor l.shape E) l.servers → EndsWithMark E →
          All (StandsFor l.shape E) l.made.items;
    }
