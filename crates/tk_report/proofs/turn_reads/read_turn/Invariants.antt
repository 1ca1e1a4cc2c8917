-- Those so far have read, and the others have not.
use Rattle.std.proofs.Common.{◌≡◌, ◌+◌, length}
use Rattle.tk_words.specs.Words.{words_of}
use Rattle.tk_report.specs.Clients.{follower_before}
use Rattle.tk_report.proofs.Splits.{IsSplit}
use Rattle.tk_report.proofs.turn_reads.read_turn.Given as goal

abbrev pub invariant-loop-number : goal.invariant-loop-number
invariant-loop-number g l =
    let S = l.plan.script.now in
    let words = words_of S.shape (g.D.Draws.book l.plan.draws.now) in
    let H = l.plan.history.now in
    let turn = l.turn in
    record {
      counted : length l.followers ≡ S.shape.clients;
      followers : IsSplit l.number (λ c s. s ≡ follower_before S words H (turn + 1) c)
          (λ c s. s ≡ follower_before S words H turn c) l.followers;
    }
