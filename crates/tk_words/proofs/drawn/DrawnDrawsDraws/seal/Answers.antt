use Rattle.std.proofs.Common.{◌∙◌, ◌++◌, ap, ap₂, List, ℕ}
use Rattle.tk_seal.specs.Seal.{sealed_with}
use Rattle.tk_words.specs.Words.{pad_of, tag_of, cell_pad, cell_tag}
use Rattle.tk_words.proofs.drawn.DrawnDrawsDraws.seal.Goals as goal

pub returns : goal.returns
unfolding pad_of tag_of
returns c =
    let shape = c.args.self.now.shape in
    ap₂ (λ (xs ys : List ℕ). xs ++ ys) c.mask.ensures c.copy_from_slice.ensures.after
    ∙ ap₂ (λ (pad tag : List ℕ). sealed_with pad (λ masked. tag) c.args.text.now) (c.pad_and_tag.ensures.pad ∙ ap (cell_pad shape) c.keyed_cell.ensures.cell)
    (c.pad_and_tag.ensures.tag ∙ ap (cell_tag shape) c.keyed_cell.ensures.cell)
