-- The pieces after the words of a cell are those of either bucket.
use Rattle.std.proofs.Common.{◌+◌, ◌-◌, ◌*◌, ◌∙◌, ap₂, take, drop}
use Rattle.std.specs.List.{flat_map}
use Rattle.std.proofs.lemmas.List.{take_rest}
use Rattle.tk_shape.specs.Lengths.{piece_len}
use Rattle.tk_kernel.specs.Pieces.{pieces}
use Rattle.tk_words.specs.Words.{piece_seed, piece_vector}
use Rattle.tk_words.proofs.Written.{twice}
use Rattle.tk_words.proofs.cells.cell_seeds_and_vectors.Goals as goal

pub returns-clause-seeds : goal.returns-clause-seeds
returns-clause-seeds c =
    let shape = c.args.shape.now in
    let bytes = drop 8 c.args.cell.now in
    (rw (take_rest c.args.cell.now 8) at c.take_apart.ensures.fronts)
    ∙ ap₂ (λ front back. flat_map (take front) (pieces (front + back) (2 * (shape.servers - 1)) bytes))
    c.seed_len.ensures c.vector_len.ensures
    ∙ twice (piece_seed shape) (piece_len shape) (shape.servers - 1) bytes

pub returns-clause-vectors : goal.returns-clause-vectors
returns-clause-vectors c =
    let shape = c.args.shape.now in
    let bytes = drop 8 c.args.cell.now in
    (rw (take_rest c.args.cell.now 8) at c.take_apart.ensures.backs)
    ∙ ap₂ (λ front back. flat_map (drop front) (pieces (front + back) (2 * (shape.servers - 1)) bytes))
    c.seed_len.ensures c.vector_len.ensures
    ∙ twice (piece_vector shape) (piece_len shape) (shape.servers - 1) bytes
