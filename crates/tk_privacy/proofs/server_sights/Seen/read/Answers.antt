-- The frame is the one spelling of the read.
use Rattle.std.proofs.Common.{◌∙◌, ◌++◌, ◌∷◌, [], ap, List, ℕ}
use Rattle.tk_frames.specs.Spelling.{read_frame}
use Rattle.tk_privacy.proofs.server_sights.Seen.read.Goals as goal

pub returns-clause-frames : goal.returns-clause-frames
returns-clause-frames c =
    let spelling = read_frame c.args.read.now in
    c.in_ok-push.ensures.items
    ∙ ap (λ (x : List ℕ). c.args.self.now.frames.items ++ x ∷ [])
    (c.from_vec.ensures ∙ c.in_ok-encode_read.ensures.ok
    ∙ ap (λ (xs : List ℕ). xs ++ spelling) c.new-bytes.ensures.items)
