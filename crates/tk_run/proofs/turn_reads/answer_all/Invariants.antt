-- The servers so far have answered, and their replies lie in the lists of the clients.
use Rattle.std.proofs.Common.{◌≡◌, ◌+◌, length}
use Rattle.tk_report.proofs.Offers.{IsSplit}
use Rattle.tk_run.specs.Plays.{OnceAsked, played_before, play_of, words_played}
use Rattle.tk_run.specs.Rows.{AreRows}
use Rattle.tk_run.specs.Servers.{IsReadyServer, IsServerAt}
use Rattle.tk_run.specs.Turns.{entries_seen}
use Rattle.tk_run.specs.Under.{replied_under, turn_under}
use Rattle.tk_run.proofs.turn_reads.answer_all.Given as goal

abbrev pub invariant-answering : goal.invariant-answering
invariant-answering g l =
    let S = l.plan.script.now in
    let book = g.D.Draws.book l.plan.draws.now in
    let H = l.plan.history.now in
    let E = played_before (play_of l.plan) (l.turn + 1) in
    record {
      counted : length l.servers ≡ length l.fn.servers;
      each : length l.rows.items ≡ S.shape.clients;
      ready : IsSplit l.i (λ k s. IsReadyServer S.shape E s) (λ k s. IsReadyServer S.shape E s) l.servers;
      rows : OnceAsked (play_of l.plan) l.turn l.asked l.fn.servers
          (λ V Es. AreRows S.shape.clients (replied_under S book H V l.turn l.i) l.rows.items);
      servers : OnceAsked (play_of l.plan) l.turn l.asked l.fn.servers (λ V Es. IsSplit l.i
          (λ k s. IsServerAt S.shape (Es (k + 1)) (turn_under S book H V l.turn (k + 1)) s)
          (λ k s. IsServerAt S.shape (Es (k + 1))
          (entries_seen S (words_played (play_of l.plan)) H l.turn (k + 1)) s) l.servers);
    }
