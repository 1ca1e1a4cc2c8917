-- What a place gives is what those from it on give; where it gives nothing the later ones are left.
use Rattle.std.proofs.Common.{◌≡◌, ◌∙◌, sym, subst, arith, Some, None}
use Rattle.std.specs.Prelude.{Option, IfNone}
use Rattle.tk_shape.specs.Lengths.{turn_count}
use Rattle.tk_words.specs.Words.{words_of}
use Rattle.tk_client.specs.Asked.{shown_by}
use Rattle.tk_client.specs.Reader.{Target, target_in, follow_in}
use Rattle.tk_client.specs.Searching.{follows_anew}
use Rattle.tk_client.specs.Vain.{ShowsNothing, origin_in}
use Rattle.tk_client.proofs.ReaderLaws.{first_some-here, first_some-later}
use Rattle.tk_client.proofs.VainLaws.{one-more-vain, one-more-same}
use Rattle.tk_client.proofs.search.first_target.Goals as goal

pub loop-place-preserved : goal.loop-place-preserved
loop-place-preserved g c =
    let shape = c.args.sight.now.shape.now in
    let book = g.D.Draws.book c.args.sight.now.draws.now in
    let marks = c.args.sight.now.filter.now in
    let shown = shown_by marks (words_of shape book) in
    let known = follows_anew c.args.search.anew c.args.follows.now in
    let gives = target_in shape shown known in
    let place = c.loop-place.place in
    let so_far = c.loop-place.invariant in
    let nothing : gives place ≡ None = sym c.target_at.ensures.target ∙ c.in_default.is in
    let new = c.target_at.new.positions in
    let silent =
    subst (λ (o : Option Target). IfNone o
    (ShowsNothing (turn_count shape) shape.ahead marks (origin_in new place) (follow_in known place)))
    c.in_default.is c.target_at.ensures.vain
    in
    record {
      low = omega (arith, so_far.low);
      high = omega (arith, c.loop-place-test.true);
      vain =
          one-more-vain (turn_count shape) shape.ahead marks known c.loop-place.positions new
          c.args.search.from place so_far.vain c.target_at.ensures.others silent;
      others =
          one-more-same c.args.positions.now c.loop-place.positions new c.args.search.from place
          so_far.low so_far.others c.target_at.ensures.others;
      found =
          sym (first_some-later gives place c.args.search.to c.loop-place-test.true nothing)
          ∙ so_far.found;
    }

pub returns-in-Some-clause-first : goal.returns-in-Some-clause-first
returns-in-Some-clause-first g c =
    let shape = c.args.sight.now.shape.now in
    let book = g.D.Draws.book c.args.sight.now.draws.now in
    let shown = shown_by c.args.sight.now.filter.now (words_of shape book) in
    let gives = target_in shape shown (follows_anew c.args.search.anew c.args.follows.now) in
    let place = c.loop-place.place in
    let target = c.in-Some.target in
    let here : gives place ≡ Some target = sym c.target_at.ensures.target ∙ c.in-Some.is in
    sym (first_some-here gives place c.args.search.to target c.loop-place-test.true here)
    ∙ c.loop-place.invariant.found
