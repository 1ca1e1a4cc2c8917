-- The clients so far have asked, and their reads lie in the lists of the servers.
use Rattle.std.proofs.Common.{◌≡◌, ◌+◌, length}
use Rattle.tk_report.proofs.Offers.{IsSplit}
use Rattle.tk_run.specs.Plays.{OnceWritten, play_of}
use Rattle.tk_run.specs.Rows.{AreRows}
use Rattle.tk_run.specs.Under.{AskedInTurn, IsIdle, asked_under, posed, wrote_under}
use Rattle.tk_run.proofs.asked_frames.ask_all.Given as goal

abbrev pub invariant-asking : goal.invariant-asking
invariant-asking g l =
    let S = l.plan.script.now in
    let book = g.D.Draws.book l.plan.draws.now in
    let H = l.plan.history.now in
    record {
      counted : length l.clients ≡ length l.fn.clients;
      each : length l.rows.items ≡ S.shape.servers;
      clients : IsSplit l.i (λ k s. AskedInTurn S H l.turn k s) (λ k s. IsIdle S (l.turn + 1) k s) l.clients;
      asked : OnceWritten (play_of l.plan) l.turn l.server l.fn.clients (λ V. IsSplit l.i
          (λ k s. s ≡ asked_under S book H V l.turn k)
          (λ k s. s ≡ wrote_under S book H V l.turn k) l.clients);
      posed : OnceWritten (play_of l.plan) l.turn l.server l.fn.clients
          (λ V. AreRows S.shape.servers (posed S book H V l.turn l.i) l.rows.items);
    }
