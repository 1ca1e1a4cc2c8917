-- The numbers so far are not shown.
use Rattle.std.proofs.Common.{◌≡◌, ℕ, ◌+◌, ◌-◌, Bool}
use Rattle.std.specs.Prelude.{find}
use Rattle.std.specs.List.{range_with_len}
use Rattle.tk_words.specs.Words.{words_of}
use Rattle.tk_client.specs.Asked.{shown_by}
use Rattle.tk_client.specs.Positions.{IsOriginOrNone}
use Rattle.tk_client.specs.Searching.{is_wanted}
use Rattle.tk_client.proofs.follow.first_shown.Given as goal

abbrev pub invariant-loop-ahead : goal.invariant-loop-ahead
invariant-loop-ahead g l =
    let shape = l.sight.shape.now in
    let book = g.D.Draws.book l.sight.draws.now in
    let shown = shown_by l.sight.filter.now (words_of shape book) in
    let test : ℕ → Bool = λ j. is_wanted shape shown l.log (l.next + j) in
    record {
      ready : IsOriginOrNone shape book l.log l.positions;
      found :
          find test (range_with_len l.ahead (shape.ahead - l.ahead))
          ≡ find test (range_with_len l.tried (shape.ahead - l.tried));
    }
