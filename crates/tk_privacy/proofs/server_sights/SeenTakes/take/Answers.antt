-- The frame is the one spelling of the entry.
use Rattle.std.proofs.Common.{◌∙◌, ◌++◌, ◌∷◌, [], ap, refl, List, ℕ}
use Rattle.tk_frames.specs.Spelling.{placed_frame}
use Rattle.tk_privacy.proofs.EnteringLaws.{entered-more}
use Rattle.tk_privacy.proofs.server_sights.SeenTakes.take.Goals as goal

pub returns : goal.returns
returns c = λ was shape E F has next.
    let old = c.args.self.now in
    let spelling = placed_frame c.args.placed.now in
    entered-more was shape E F c.args.placed.now old _ has next refl
    (c.in_ok-push.ensures.items
    ∙ ap (λ (x : List ℕ). old.frames.items ++ x ∷ [])
    (c.from_vec.ensures ∙ c.in_ok-encode_placed.ensures.ok
    ∙ ap (λ (xs : List ℕ). xs ++ spelling) c.new-bytes.ensures.items))
