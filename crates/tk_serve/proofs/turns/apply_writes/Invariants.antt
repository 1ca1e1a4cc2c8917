-- The writes of the clients so far are in the order, and no longer wait.
use Rattle.std.proofs.Common.{◌≡◌, ℕ, List, map, take, drop, ◌++◌}
use Rattle.tk_shape.specs.declared.shape.Shape.{Shape}
use Rattle.tk_frames.specs.declared.write_frame.WriteFrame.{WriteFrame}
use Rattle.tk_frames.specs.declared.entry.Placed.{Placed}
use Rattle.tk_replica.specs.Replica.{StandsFor}
use Rattle.tk_serve.specs.Desks.{MayTakeTurn, with_writes, desk_behind}
use Rattle.tk_serve.proofs.turns.apply_writes.Given as goal

abbrev pub invariant-clients : goal.invariant-clients
invariant-clients l = record {
  stands : (shape : Shape) (E : List Placed) (write : ℕ → WriteFrame) →
      MayTakeTurn shape E write l.initial.state l.initial.desks →
      StandsFor shape (with_writes E write l.desk-index) l.state;
  behind : l.desks ≡ map desk_behind (take l.desk-index l.initial.desks) ++ drop l.desk-index l.initial.desks;
  floor : l.state.floor ≡ l.initial.state.floor;
}
