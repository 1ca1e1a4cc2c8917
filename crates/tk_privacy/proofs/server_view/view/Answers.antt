-- There is a read for each client and turn, and with them the frames are those that are seen.
use Rattle.std.proofs.Common.{◌∙◌, ◌++◌, List, ℕ, ap, sym, subst}
use Rattle.tk_words.specs.Words.{IsBook}
use Rattle.tk_privacy.specs.Privacy.{pairs_read}
use Rattle.tk_privacy.proofs.ReadsLaws.{reads-counted, reads-told}
use Rattle.tk_privacy.proofs.EnteringLaws.{frames-seen, view-for}
use Rattle.tk_privacy.proofs.server_view.view.Goals as goal

pub all_frames-requires : goal.all_frames-requires
all_frames-requires g c =
    let S = c.args.script.now in
    let H = c.args.history.now in
    let world = g.world in
    let laws = g.met.D.Draws world.𝓛 world.𝓜 world.𝓡 ((λ s x. x), (λ x. x), (λ x. x), λ x. x) in
    let book = g.D.Draws.book c.args.draws.now in
    let pairs = pairs_read S book H in
    let reads = c.as_slice.result.now in
    let are = c.as_slice.ensures.value ∙ c.in_ok-reads.ensures in (
      c.type_bounds.sync-D,
      (
        reads-counted S.shape book H pairs c.args.server reads are,
        reads-told S.shape book H pairs c.args.server
            (subst (λ s. IsBook s book) c.requires.one_shape (laws.serves c.args.draws.now))
            c.requires.low c.requires.high reads are,
      ),
    )

pub returns-clause-ok : goal.returns-clause-ok
returns-clause-ok g c =
    let S = c.args.script.now in
    let H = c.args.history.now in
    let book = g.D.Draws.book c.args.draws.now in
    c.in_ok-append.ensures.items
    ∙ ap (λ (xs : List (List ℕ)). c.args.out.now.items ++ xs)
    (c.in_ok-frames.ensures
    ∙ frames-seen S book H (pairs_read S book H) c.args.server c.as_slice.result.now
    (c.as_slice.ensures.value ∙ c.in_ok-reads.ensures)
    ∙ sym (view-for S book H c.args.server))
