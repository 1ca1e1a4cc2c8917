-- What the servers of a board are seen as.
use Rattle.std.specs.Prelude.{◌≡◌, List, length}
use Rattle.tk_shape.specs.declared.shape.Shape.{Shape}
use Rattle.tk_replica.specs.Replica.{ReplicaView}

pub record BoardView : Type 0 where
  pub shape : Shape
  pub servers : List ReplicaView

-- as many servers as the shape has
pub record IsBoard (shape : Shape) (servers : List ReplicaView) : Type 0 where
  pub counted : length servers ≡ shape.servers
