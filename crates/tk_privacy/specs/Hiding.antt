-- Read cells with other vectors for one server.
use Rattle.std.specs.Prelude.{ℕ, ◌+◌, ◌*◌, List, ◌++◌, take, slice_index_or}
use Rattle.std.specs.List.{concat}
use Rattle.tk_shape.specs.declared.shape.Shape.{Shape}
use Rattle.tk_shape.specs.Lengths.{turn_count}
use Rattle.tk_frames.specs.declared.read_frame.ReadFrame.{ReadFrame}
use Rattle.tk_words.specs.Words.{cell_pieces, read_cell}
use Rattle.tk_report.specs.Exchange.{blank_read}
use Rattle.tk_privacy.specs.declared.cells.Cells.{Cells}
use Rattle.tk_privacy.specs.Privacy.{cells, with_vector}

-- a read cell with these as server h's vectors of either bucket
abbrev pub cell_with : Shape → ℕ → List ℕ → List ℕ → List ℕ → List ℕ
cell_with shape h first second cell =
    let pieces = cell_pieces shape cell in
    take 8 cell
    ++ (concat (with_vector shape h first pieces.first)
    ++ concat (with_vector shape h second pieces.second))

-- the read of a client's turn, among those of all turns, in each of which they lie by client
abbrev pub read_in : Shape → List ReadFrame → ℕ → ℕ → ReadFrame
read_in shape reads g c = slice_index_or reads (g * shape.clients + c) blank_read

-- the read cell of a client's turn with server h's vectors as its read frame has them
abbrev pub hidden_read : Shape → List ReadFrame → ℕ → List ℕ → ℕ → ℕ → List ℕ
hidden_read shape reads h u g c =
    let read = read_in shape reads g c in
    cell_with shape h read.first read.second (read_cell shape u g c)

-- the read cells of a turn, and of all turns
abbrev pub reads_of_turn : Shape → List ReadFrame → ℕ → List ℕ → ℕ → List ℕ
reads_of_turn shape reads h u g = cells shape.clients (hidden_read shape reads h u g)

abbrev pub reads_hidden : Shape → List ReadFrame → ℕ → List ℕ → List ℕ
reads_hidden shape reads h u = cells (turn_count shape) (reads_of_turn shape reads h u)

-- the same of the cells of a tape: the read cell of client c in turn g, those of the turn, and all
abbrev pub read_hidden_in : Cells → List ReadFrame → ℕ → ℕ → ℕ → List ℕ
read_hidden_in tape reads h = hidden_read tape.shape.now reads h tape.bytes.now

abbrev pub turn_hidden_in : Cells → List ReadFrame → ℕ → ℕ → List ℕ
turn_hidden_in tape reads h = reads_of_turn tape.shape.now reads h tape.bytes.now

abbrev pub reads_hidden_in : Cells → List ReadFrame → ℕ → List ℕ
reads_hidden_in tape reads h = reads_hidden tape.shape.now reads h tape.bytes.now
