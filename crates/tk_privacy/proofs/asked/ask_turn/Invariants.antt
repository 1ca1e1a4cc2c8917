-- The reads of the clients so far are found, and nobody who follows knows more.
use Rattle.std.proofs.Common.{◌≡◌, map}
use Rattle.std.specs.List.{range_with_len}
use Rattle.tk_privacy.specs.Privacy.{pairs_read, read_for}
use Rattle.tk_privacy.proofs.asked.ask_turn.Given as goal

abbrev pub invariant-loop-number : goal.invariant-loop-number
invariant-loop-number g l =
    let S = l.plan.script.now in
    let book = g.D.Draws.book l.plan.draws.now in
    let H = l.plan.history.now in
    record {
      asked : l.reads.items
          ≡ map (λ c. read_for S.shape book H (pairs_read S book H l.spot.turn c) l.spot.turn c
          l.spot.server) (range_with_len 0 l.number);
      same : l.followers ≡ l.fn.followers;
    }
