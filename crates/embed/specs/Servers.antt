-- Servers that have applied the same entries.
use Rattle.std.specs.Prelude.{◌≡◌, List, length, All}
use Rattle.tk_shape.specs.declared.shape.Shape.{Shape}
use Rattle.tk_frames.specs.declared.entry.Placed.{Placed}
use Rattle.tk_replica.specs.Replica.{ReplicaView, StandsFor}

-- as many as the shape has, and each stands for these entries
pub record AllStandFor (shape : Shape) (E : List Placed) (servers : List ReplicaView)
    : Type 0 where
  pub counted : length servers ≡ shape.servers
  pub each : All (StandsFor shape E) servers
