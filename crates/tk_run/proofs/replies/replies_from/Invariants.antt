-- What is left is asked of the server too, and what is replied is what is due so far.
use Rattle.std.proofs.Common.{◌≡◌, ◌++◌, List, length, map}
use Rattle.tk_shape.specs.declared.shape.Shape.{Shape}
use Rattle.tk_frames.specs.declared.entry.Placed.{Placed}
use Rattle.tk_run.specs.Answering.{AllStand, MayReply}
use Rattle.tk_run.specs.Ranging.{bytes_made}
use Rattle.tk_run.proofs.replies.replies_from.Given as goal

abbrev pub invariant-rows : goal.invariant-rows
invariant-rows g l =
    record {
      asked : (shape : Shape) → MayReply shape l.server l.readings l.frames →
          MayReply shape l.server l.clients l.asked;
      stand : (shape : Shape) (E : List Placed) → AllStand l.readings shape E →
          AllStand l.clients shape E;
      replied : (shape : Shape) (E : List Placed) → AllStand l.readings shape E →
          l.replies.items ++ map (bytes_made (g.A.Sums.sum l.sums) l.crew.shards shape E) l.asked
          ≡ map (bytes_made (g.A.Sums.sum l.sums) l.crew.shards shape E) l.frames;
    }

abbrev pub decreases-rows : goal.decreases-rows
decreases-rows g l = length l.clients
