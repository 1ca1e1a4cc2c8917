-- The places so far give nothing, and show nothing.
use Rattle.std.proofs.Common.{◌≡◌, ◌≤◌, ◌-◌}
use Rattle.std.specs.List.{range_with_len}
use Rattle.tk_frames.specs.Lists.{first_some}
use Rattle.tk_words.specs.Words.{words_of}
use Rattle.tk_client.specs.Asked.{shown_by}
use Rattle.tk_client.specs.Reader.{target_in}
use Rattle.tk_shape.specs.Lengths.{turn_count}
use Rattle.tk_client.specs.Searching.{follows_anew}
use Rattle.tk_client.specs.Vain.{ShowNothing, AreSameOutside}
use Rattle.tk_client.proofs.search.first_target.Given as goal

abbrev pub invariant-loop-place : goal.invariant-loop-place
invariant-loop-place g l =
    let shape = l.sight.shape.now in
    let book = g.D.Draws.book l.sight.draws.now in
    let shown = shown_by l.sight.filter.now (words_of shape book) in
    let known = follows_anew l.search.anew l.follows in
    let gives = target_in shape shown known in
    record {
      low : l.search.from ≤ l.place;
      high : l.place ≤ l.search.to;
      vain :
          ShowNothing (turn_count shape) shape.ahead l.sight.filter.now l.positions known
          l.search.from l.place;
      others : AreSameOutside l.search.from l.place l.fn.positions l.positions;
      found :
          first_some gives (range_with_len l.place (l.search.to - l.place))
          ≡ first_some gives (range_with_len l.search.from (l.search.to - l.search.from));
    }
