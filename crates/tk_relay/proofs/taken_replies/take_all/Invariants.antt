-- The clients so far have taken the replies, and the others wait.
use Rattle.std.proofs.Common.{◌≡◌, ◌+◌, length}
use Rattle.tk_words.specs.Words.{words_of}
use Rattle.tk_report.specs.Clients.{client_before}
use Rattle.tk_report.proofs.Offers.{IsSplit}
use Rattle.tk_relay.specs.Running.{client_asked}
use Rattle.tk_relay.proofs.taken_replies.take_all.Given as goal

abbrev pub invariant-taking : goal.invariant-taking
invariant-taking g l =
    let S = l.plan.script.now in
    let words = words_of S.shape (g.D.Draws.book l.plan.draws.now) in
    let H = l.plan.history.now in
    record {
      counted : length l.clients ≡ length l.fn.clients;
      clients : IsSplit l.i (λ k s. s ≡ client_before S words H (l.turn + 1) k)
          (λ k s. s ≡ client_asked S words H l.turn k) l.clients;
    }
