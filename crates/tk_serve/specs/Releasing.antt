-- Which epochs a server need not keep.
use Rattle.std.specs.Prelude.{ℕ, ◌/◌, ◌<◌, ◌≤◌, length}
use Rattle.tk_serve.specs.declared.server.Server.{Server}
use Rattle.tk_serve.specs.Stands.{desk_at}

-- an epoch that is there, and before which no client reads any more
pub record IsReadTo (e : ℕ) (s : Server) : Type 0 where
  pub there : e ≤ s.state.last
  pub each : (k : ℕ) → k < length s.desks.items → e ≤ (desk_at s k).asked / s.shape.ticks
