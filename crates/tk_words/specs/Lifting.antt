-- A book in format 2.
use Rattle.std.specs.Prelude.{ℕ, ◌*◌, ◌==◌, cond, List, ◌++◌, take, flat_map, replicate}
use Rattle.tk_shape.specs.declared.shape.Shape.{Shape}
use Rattle.tk_shape.specs.Lengths.{turn_count, read_cell_len}
use Rattle.tk_kernel.specs.Pieces.{pieces}
use Rattle.tk_words.specs.Words.{WordBook, keyed, drawn, write_part, read_part, keyed_part}
use Rattle.tk_words.specs.Words.{joined, for_each, cell_pieces}

-- a vector, and before it a seed of 32 zero bytes
abbrev pub with_zero_seed : List ℕ → List ℕ
with_zero_seed vector = replicate 32 0 ++ vector

-- a read cell of format 1, in format 2: the same words, and the same vectors behind seeds
abbrev pub lifted_read_cell : Shape → List ℕ → List ℕ
lifted_read_cell shape cell = take 8 cell ++ joined (for_each with_zero_seed (cell_pieces shape cell))

-- the read cells of a tape, by turn and client
abbrev pub read_cells : Shape → List ℕ → List (List ℕ)
read_cells shape tape =
    pieces (read_cell_len shape) (turn_count shape * shape.clients) (read_part shape tape)

-- a tape of a shape of either format, in format 2: the write cells and the keyed cells stay
unfoldable pub lifted_tape : Shape → List ℕ → List ℕ
lifted_tape shape tape =
    cond (shape.format == 2) tape
    (write_part shape tape ++ flat_map (lifted_read_cell shape) (read_cells shape tape) ++ keyed_part shape tape)

-- keys serve both formats
abbrev pub lifted_book : Shape → WordBook → WordBook
lifted_book shape (keyed handles seeds) = keyed handles seeds
lifted_book shape (drawn tape) = drawn (lifted_tape shape tape)
