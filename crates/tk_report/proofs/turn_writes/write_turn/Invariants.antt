-- The clients of the items so far have written, and their entries were taken.
use Rattle.std.proofs.Common.{◌≡◌, ℕ, take}
use Rattle.tk_schedule.specs.Schedule.{order_at}
use Rattle.tk_words.specs.Words.{words_of}
use Rattle.tk_client.specs.Reader.{Reader}
use Rattle.tk_report.specs.Clients.{AreClients, client_told, client_after}
use Rattle.tk_report.specs.Turns.{placed_before, placed_in}
use Rattle.tk_report.proofs.turn_writes.write_turn.Given as goal

abbrev pub invariant-items : goal.invariant-items
invariant-items g l =
    let S = l.plan.script.now in
    let words = words_of S.shape (g.D.Draws.book l.plan.draws.now) in
    let H = l.plan.history.now in
    record {
      items : l.item-items ≡ order_at H l.turn;
      clients : (knows : ℕ → Reader) →
          AreClients S.shape.clients (client_told S knows l.turn) l.fn.clients →
          AreClients S.shape.clients
          (client_after S knows l.turn (take l.item-index (order_at H l.turn))) l.clients;
      taker : g.T.Takes.took l.fn.taker S.shape (placed_before S words H l.turn)
          (placed_in S words H l.turn l.item-index) l.taker;
    }
