-- The one at the place is asked, and stays as it is.
use Rattle.std.proofs.Common.{◌≡◌, ◌<◌, ◌∙◌, ◌++◌, ◌∷◌, [], ap, ap₂, sym, arith, ℕ, List, length, set, map, zero-add}
use Rattle.std.specs.Prelude.{slice_index_or}
use Rattle.std.specs.List.{range_with_len}
use Rattle.std.proofs.lemmas.List.{set-get_or}
use Rattle.std.proofs.lemmas.List.FromFn.{map-range_with_len_more}
use Rattle.tk_client.specs.Looking.{FollowerState}
use Rattle.tk_frames.specs.declared.read_frame.ReadFrame.{ReadFrame}
use Rattle.tk_privacy.specs.Privacy.{pairs_read, read_for}
use Rattle.tk_privacy.proofs.asked.ask_turn.Goals as goal

pub ask_one-requires-clause-follower : goal.ask_one-requires-clause-follower
ask_one-requires-clause-follower g c κs met =
    let number = c.loop-number.number in
    let same = c.loop-number.invariant.same in
    let d = c.index-followers-number.result in
    let within : number < length c.args.followers.now =
    omega (arith, c.loop-number-test.true, c.loop-number.auto.followers)
    in
    ap (λ (xs : List FollowerState). slice_index_or xs number d) same
    ∙ c.requires.followers.each number d within

pub loop-number-preserved : goal.loop-number-preserved
loop-number-preserved g c =
    let S = c.args.plan.now.script.now in
    let book = g.D.Draws.book c.args.plan.now.draws.now in
    let H = c.args.plan.now.history.now in
    let spot = c.args.spot in
    let number = c.loop-number.number in
    let read : ℕ → ReadFrame =
    λ k. read_for S.shape book H (pairs_read S book H spot.turn k) spot.turn k spot.server
    in
    let so_far = c.loop-number.invariant in
    let followers = c.loop-number.followers in
    let now = c.index-followers-number.result in
    record {
      asked =
          c.in_ok-push.ensures.items
          ∙ ap₂ (λ (xs : List ReadFrame) (x : ReadFrame). xs ++ x ∷ []) so_far.asked
          c.in_ok-ask_one.ensures.read
          ∙ sym (map-range_with_len_more read 0 number number (zero-add number));
      same =
          ap (set followers number) c.in_ok-ask_one.ensures.same
          ∙ set-get_or followers number now ∙ so_far.same;
    }

pub returns-clause-asked : goal.returns-clause-asked
returns-clause-asked g c =
    let S = c.args.plan.now.script.now in
    let book = g.D.Draws.book c.args.plan.now.draws.now in
    let H = c.args.plan.now.history.now in
    let spot = c.args.spot in
    let so_far = c.loop-number.invariant in
    let all : c.loop-number.number ≡ S.shape.clients =
    omega (
      arith,
      c.loop-number-test.false,
      c.loop-number.auto.followers,
      c.loop-number.auto.number-end,
      c.requires.followers.counted,
    )
    in
    so_far.asked
    ∙ ap (λ (n : ℕ). map (λ k. read_for S.shape book H (pairs_read S book H spot.turn k) spot.turn k
    spot.server) (range_with_len 0 n)) all
