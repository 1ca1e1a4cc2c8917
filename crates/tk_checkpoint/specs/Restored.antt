-- The state that goes on from a checkpoint.
use Rattle.std.specs.Prelude.{◌≡◌, ℕ, List}
use Rattle.tk_shape.specs.declared.shape.Shape.{Shape}
use Rattle.tk_replica.specs.Replica.{ReplicaView}
use Rattle.tk_checkpoint.specs.Saved.{saved_of, last_upto, spelling}
use Rattle.tk_checkpoint.specs.Reading.{saved_in}
use Rattle.tk_checkpoint.specs.Writing.{state_bytes}

-- It has what the bytes spell, and is written as that. It keeps the epoch of the last mark alone, up to
-- which all is applied.
pub record GoesOnFrom (shape : Shape) (bytes : List ℕ) (s : ReplicaView) : Type 0 where
  pub same : s.shape ≡ shape
  pub parts : saved_of s ≡ saved_in shape bytes
  pub written : state_bytes s ≡ spelling shape (saved_of s)
  pub floor : s.floor ≡ s.last
  pub at_mark : last_upto s ≡ s.applied
