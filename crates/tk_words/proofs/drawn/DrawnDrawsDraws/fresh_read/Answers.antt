use Rattle.std.proofs.Common.{ap, ◌∙◌, List, ℕ}
use Rattle.tk_words.specs.Words.{fresh_pair, fresh_seeds, fresh_vectors, joined, for_each, cell_pieces, piece_seed, piece_vector}
use Rattle.tk_words.specs.Words.{cell_pair}
use Rattle.tk_words.proofs.drawn.DrawnDrawsDraws.fresh_read.Goals as goal

pub returns-clause-pair : goal.returns-clause-pair
unfolding fresh_pair
returns-clause-pair c = c.cell_pair.ensures.pair ∙ ap (cell_pair c.args.self.now.shape) c.read_cell-cell.ensures.cell

pub returns-clause-seeds : goal.returns-clause-seeds
unfolding fresh_seeds
returns-clause-seeds c =
    let shape = c.args.self.now.shape in
    c.cell_seeds_and_vectors.ensures.seeds
    ∙ ap (λ (cell : List ℕ). joined (for_each (piece_seed shape) (cell_pieces shape cell))) c.read_cell-cell.ensures.cell

pub returns-clause-vectors : goal.returns-clause-vectors
unfolding fresh_vectors
returns-clause-vectors c =
    let shape = c.args.self.now.shape in
    c.cell_seeds_and_vectors.ensures.vectors
    ∙ ap (λ (cell : List ℕ). joined (for_each (piece_vector shape) (cell_pieces shape cell))) c.read_cell-cell.ensures.cell
