-- Those so far have read, and the others have not.
use Rattle.std.proofs.Common.{◌≡◌, length, map}
use Rattle.std.specs.List.{range_with_len}
use Rattle.tk_report.proofs.Offers.{IsSplit}
use Rattle.tk_hostile.specs.Given.{sums_at}
use Rattle.tk_hostile.specs.Walks.{read_in, client_in, client_out}
use Rattle.tk_hostile.proofs.turn_reads.read_turn.Given as goal

abbrev pub invariant-loop-number : goal.invariant-loop-number
invariant-loop-number g l =
    let S = l.walk.plan.now.script.now in
    let book = g.D.Draws.book l.walk.plan.now.draws.now in
    let H = l.walk.plan.now.history.now in
    let F = sums_at l.walk.replies.now in
    let sides = l.walk.sides in
    record {
      counted : length l.clients ≡ S.shape.clients;
      reads : l.reads.items
          ≡ map (read_in S book H sides F sides.seen l.turn) (range_with_len 0 l.number);
      clients : IsSplit l.number (λ c s. s ≡ client_out S book H sides F l.turn c)
          (λ c s. s ≡ client_in S book H sides F l.turn c) l.clients;
    }
