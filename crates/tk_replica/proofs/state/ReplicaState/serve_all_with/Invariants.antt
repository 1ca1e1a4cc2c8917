-- The replies so far, and those to what is left.
use Rattle.std.proofs.Common.{◌≡◌, List, length, map, ◌++◌}
use Rattle.std.specs.List.{AllByRecursion}
use Rattle.tk_shape.specs.declared.shape.Shape.{Shape}
use Rattle.tk_frames.specs.declared.entry.Placed.{Placed}
use Rattle.tk_replica.specs.Replica.{StandsFor}
use Rattle.tk_replica.specs.Replies.{reply_bytes, IsServed}
use Rattle.tk_replica.proofs.Several.{frame_for}
use Rattle.tk_replica.proofs.state.ReplicaState.serve_all_with.Given as goal

abbrev pub invariant-rows : goal.invariant-rows
invariant-rows l =
    record {
      served : AllByRecursion (IsServed l.self) l.rest.items;
      replies : (shape : Shape) (E : List Placed) → StandsFor shape E l.self →
          l.replies.items ++ map (frame_for shape E) l.rest.items
          ≡ map (reply_bytes shape E) l.frames;
    }

abbrev pub decreases-rows : goal.decreases-rows
decreases-rows l = length l.rest.items
