-- The texts of the turn so far were said, and the place is not after all of them.
use Rattle.std.proofs.Common.{◌≡◌, ◌+◌, ◌≤◌, ℕ, length}
use Rattle.tk_client.specs.Reader.{Reader}
use Rattle.tk_report.specs.Clients.{AreClients, client_knowing}
use Rattle.tk_report.specs.Queues.{said_before}
use Rattle.tk_report.proofs.SayingLaws.{said_of, told_of}
use Rattle.tk_report.proofs.said.say_turn.Given as goal

abbrev pub invariant-loop-place : goal.invariant-loop-place
invariant-loop-place l =
    let S = l.script in
    record {
      counted : length l.clients ≡ length l.fn.clients;
      from : said_before S l.now ≤ l.place;
      up_to : l.place ≤ said_before S (l.now + 1);
      clients : (knows : ℕ → Reader) →
          AreClients S.shape.clients (client_knowing S knows l.now) l.fn.clients →
          AreClients S.shape.clients (told_of S knows l.now (said_of S l.now l.place)) l.clients;
    }
