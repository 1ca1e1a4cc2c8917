-- A checkpoint of what a server stands for gives one that stands for it.
use Rattle.std.proofs.Common.{◌∙◌, ap, ◌++◌, List, ℕ}
use Rattle.tk_checkpoint.specs.Saved.{saved}
use Rattle.board.proofs.board.restarted.Goals as goal

pub returns : goal.returns
returns c = λ E stands ends.
    c.in_ok-restore.ensures.stands E stands.order ends
    (c.as_slice.ensures.value
    ∙ c.in_ok-checkpoint.ensures.saved c.args.shape.now E stands
    ∙ ap (λ (bytes : List ℕ). bytes ++ saved c.args.shape.now E) c.new-saved.ensures.items)
