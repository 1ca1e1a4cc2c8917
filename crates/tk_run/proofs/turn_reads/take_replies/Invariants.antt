-- The clients so far have taken the replies to their reads.
use Rattle.std.proofs.Common.{◌≡◌, ◌+◌, length}
use Rattle.tk_report.proofs.Offers.{IsSplit}
use Rattle.tk_run.specs.Plays.{OnceReplied, play_of}
use Rattle.tk_run.specs.Under.{AskedInTurn, IsIdle, asked_under, client_under}
use Rattle.tk_run.proofs.turn_reads.take_replies.Given as goal

abbrev pub invariant-taking : goal.invariant-taking
invariant-taking g l =
    let S = l.plan.script.now in
    let book = g.D.Draws.book l.plan.draws.now in
    let H = l.plan.history.now in
    record {
      counted : length l.clients ≡ length l.fn.clients;
      clients : IsSplit l.i (λ k s. IsIdle S (l.turn + 1) k s) (λ k s. AskedInTurn S H l.turn k s) l.clients;
      under : OnceReplied (play_of l.plan) l.turn l.replies l.fn.clients (λ V. IsSplit l.i
          (λ k s. s ≡ client_under S book H V (l.turn + 1) k)
          (λ k s. s ≡ asked_under S book H V l.turn k) l.clients);
    }
