-- The least is no more than the last epoch, nor than what the clients so far read next, and no less than an epoch
-- before which none reads.
use Rattle.std.proofs.Common.{ℕ, ◌≤◌, ◌<◌, ◌/◌}
use Rattle.std.specs.Prelude.{slice_index_or}
use Rattle.tk_serve.specs.Desks.{empty_desk}
use Rattle.tk_serve.specs.Releasing.{IsReadTo}
use Rattle.tk_serve.proofs.server.Server.release.Given as goal

abbrev pub invariant-clients : goal.invariant-clients
invariant-clients l = record {
  top : l.least ≤ l.fn.self.state.last;
  below : (k : ℕ) → k < l.desk-index →
      l.least ≤ (slice_index_or l.desk-items k empty_desk).asked / l.fn.self.shape.ticks;
  above : (e : ℕ) → IsReadTo e l.fn.self → e ≤ l.least;
}
