-- What a block opens to over a tape, by the pad and the tag of its cell.
use Rattle.std.proofs.Common.{◌≡◌, ℕ, List, ◌++◌, ap, ap₂, sym, ◌∙◌}
use Rattle.tk_shape.specs.declared.shape.Shape.{Shape}
use Rattle.tk_seal.specs.Seal.{opened_with}
use Rattle.tk_words.specs.Words.{drawn, words_of, pad_of, tag_of, opened, keyed_cell, cell_pad, cell_tag}

pub opened-cell : (shape : Shape) (tape : List ℕ) (log s : ℕ) (cell pad tag block masked mark : List ℕ) →
    cell ≡ keyed_cell shape tape log s → pad ≡ cell_pad shape cell → tag ≡ cell_tag shape cell → block ≡ masked ++ mark →
    opened (words_of shape (drawn tape)) log s block ≡ opened_with pad (λ m. tag) (masked ++ mark)
unfolding pad_of tag_of opened
opened-cell shape tape log s cell pad tag block masked mark is_cell is_pad is_tag is_block =
    ap₂ (λ (p t : List ℕ). opened_with p (λ m. t) block) (sym (is_pad ∙ ap (cell_pad shape) is_cell)) (sym (is_tag ∙ ap (cell_tag shape) is_cell))
    ∙ ap (opened_with pad (λ m. tag)) is_block
