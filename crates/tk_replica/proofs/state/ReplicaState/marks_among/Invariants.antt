-- No more marks than the number stand among the first entries.
use Rattle.std.proofs.Common.{List, ◌≤◌}
use Rattle.tk_shape.specs.declared.shape.Shape.{Shape}
use Rattle.tk_frames.specs.declared.entry.Placed.{Placed}
use Rattle.tk_replica.specs.Following.{marks_among}
use Rattle.tk_replica.specs.Replica.{StandsFor}
use Rattle.tk_replica.specs.Shelf.{IsHeld}
use Rattle.tk_replica.proofs.state.ReplicaState.marks_among.Given as goal

abbrev pub invariant-loop-upto : goal.invariant-loop-upto
invariant-loop-upto l =
    record {
      held : IsHeld l.self.floor l.self.last l.number;
      most : (shape : Shape) (E : List Placed) →
          StandsFor shape E l.self → marks_among l.upto E ≤ l.number;
    }

abbrev pub decreases-loop-upto : goal.decreases-loop-upto
decreases-loop-upto l = l.number
