-- There is a read for each client and turn, and with them the frames are those that are seen.
use Rattle.std.proofs.Common.{◌≡◌, ◌∙◌, List, ℕ, subst}
use Rattle.std.specs.Prelude.{IfOk}
use Rattle.tk_words.specs.Words.{IsBook}
use Rattle.tk_privacy.proofs.Offers.{reads-counted, reads-told, frames-seen}
use Rattle.tk_hostile.specs.Given.{sums_at}
use Rattle.tk_hostile.specs.Walks.{pair_in}
use Rattle.tk_hostile.proofs.frames_seen.frames_seen.Goals as goal

pub all_frames-requires : goal.all_frames-requires
all_frames-requires g c =
    let walk = c.args.walk.now in
    let plan = walk.plan.now in
    let S = plan.script.now in
    let H = plan.history.now in
    let world = g.world in
    let laws = g.met.D.Draws world.𝓛 world.𝓜 world.𝓡 ((λ s x. x), (λ x. x), (λ x. x), λ x. x) in
    let book = g.D.Draws.book plan.draws.now in
    let pairs = pair_in S book H walk.sides (sums_at walk.replies.now) in
    let j = walk.sides.seen in
    let reads = c.as_slice.result.now in
    let are = c.as_slice.ensures.value ∙ c.in_ok-fold.ensures.reads in (
      c.type_bounds.sync-D,
      (
        reads-counted S.shape book H pairs j reads are,
        reads-told S.shape book H pairs j
            (subst (λ s. IsBook s book) plan.one_shape (laws.serves plan.draws.now))
            walk.sides_in.seen_low walk.sides_in.seen_high reads are,
      ),
    )

pub returns : goal.returns
returns g c =
    let walk = c.args.walk.now in
    let plan = walk.plan.now in
    let S = plan.script.now in
    let H = plan.history.now in
    let book = g.D.Draws.book plan.draws.now in
    let pairs = pair_in S book H walk.sides (sums_at walk.replies.now) in
    let are = c.as_slice.ensures.value ∙ c.in_ok-fold.ensures.reads in
    subst (λ (xs : List (List ℕ)). IfOk c.all_frames.result (λ frames. frames.items ≡ xs))
    (frames-seen S book H pairs walk.sides.seen c.as_slice.result.now are) c.all_frames.ensures
