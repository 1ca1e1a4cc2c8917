-- The first that is shown is found, and one that isn't leaves the later ones.
use Rattle.std.proofs.Common.{◌≡◌, ◌∙◌, refl, sym, subst, ℕ, ◌+◌, Bool, true, false, arith}
use Rattle.tk_words.specs.Words.{words_of}
use Rattle.tk_client.specs.Asked.{shown_by}
use Rattle.tk_client.specs.Positions.{IsOriginOrNone}
use Rattle.tk_client.specs.Searching.{is_wanted}
use Rattle.tk_client.proofs.FollowLaws.{find-here, find-later, find-past}
use Rattle.tk_client.proofs.VainLaws.{none-shown}
use Rattle.tk_client.proofs.follow.first_shown.Goals as goal

pub loop-ahead-init : goal.loop-ahead-init
loop-ahead-init g c = record { ready = c.turn_to.ensures; found = refl }

pub loop-ahead-preserved : goal.loop-ahead-preserved
loop-ahead-preserved g c =
    let shape = c.args.sight.now.shape.now in
    let book = g.D.Draws.book c.args.sight.now.draws.now in
    let shown = shown_by c.args.sight.now.filter.now (words_of shape book) in
    let test : ℕ → Bool = λ j. is_wanted shape shown c.args.log (c.args.next + j) in
    let ahead = c.loop-ahead.ahead in
    let fails : test ahead ≡ false = sym c.is_shown.ensures.shown ∙ c.if-is_shown.false in
    record {
      ready =
          subst (IsOriginOrNone shape book c.args.log) (sym c.is_shown.ensures.same)
          c.loop-ahead.invariant.ready;
      found =
          sym (find-later test ahead shape.ahead c.loop-ahead-test.true fails)
          ∙ c.loop-ahead.invariant.found;
    }

pub returns-then-is_shown : goal.returns-then-is_shown
returns-then-is_shown g c =
    let shape = c.args.sight.now.shape.now in
    let book = g.D.Draws.book c.args.sight.now.draws.now in
    let shown = shown_by c.args.sight.now.filter.now (words_of shape book) in
    let test : ℕ → Bool = λ j. is_wanted shape shown c.args.log (c.args.next + j) in
    let ahead = c.loop-ahead.ahead in
    let passes : test ahead ≡ true = sym c.is_shown.ensures.shown ∙ c.if-is_shown.true in
    record {
      first =
          sym (find-here test ahead shape.ahead c.loop-ahead-test.true passes)
          ∙ c.loop-ahead.invariant.found;
      number_in = c.is_shown.ensures.number_in c.if-is_shown.true;
      ahead_in = c.loop-ahead-test.true;
      vain = tt;
    }

pub returns : goal.returns
returns g c =
    let shape = c.args.sight.now.shape.now in
    let book = g.D.Draws.book c.args.sight.now.draws.now in
    let shown = shown_by c.args.sight.now.filter.now (words_of shape book) in
    let test : ℕ → Bool = λ j. is_wanted shape shown c.args.log (c.args.next + j) in
    let none =
    sym (find-past test c.loop-ahead.ahead shape.ahead (omega (arith, c.loop-ahead-test.false)))
    ∙ c.loop-ahead.invariant.found
    in
    record {
      first = none;
      number_in = tt;
      ahead_in = tt;
      vain =
          none-shown shape book c.args.sight.now.filter.now c.args.log c.loop-ahead.positions
          c.args.next c.args.tried c.loop-ahead.invariant.ready (sym none);
    }
