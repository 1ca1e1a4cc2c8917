-- How long the parts of a tape and its keyed cells are.
use Rattle.std.proofs.Common.{◌≡◌, ℕ, ◌+◌, ◌*◌, ◌<◌, ◌≤◌, List, length, drop, arith, length-drop}
use Rattle.std.proofs.lemmas.List.{length-take-le}
use Rattle.std.proofs.Math.Nat.{mul-le-mul_right}
use Rattle.tk_shape.specs.declared.shape.Shape.{Shape}
use Rattle.tk_shape.specs.Lengths.{turn_count, cell_len, tape_len}
use Rattle.tk_words.specs.Pieces.{piece}
use Rattle.tk_words.specs.Words.{write_cells_len, read_cells_len, write_part, read_part, keyed_part, keyed_cell}

-- a column of a row ends within the rows
pub place_within : (g c n m size : ℕ) → g < n → c < m → (g * m + c + 1) * size ≤ n * m * size
place_within g c n m size h k =
    let row : (g + 1) * m ≤ n * m = mul-le-mul_right m (omega arith) in
    let place : g * m + c + 1 ≤ n * m = omega arith in
    mul-le-mul_right size place

pub tape_len-parts : (shape : Shape) → tape_len shape ≡ write_cells_len shape + read_cells_len shape + shape.logs * turn_count shape * cell_len shape
tape_len-parts shape = omega arith

-- ---- the parts of a tape, by their lengths

pub length-write_part : (shape : Shape) (tape : List ℕ) → length tape ≡ tape_len shape → length (write_part shape tape) ≡ write_cells_len shape
length-write_part shape tape h = length-take-le (write_cells_len shape) tape (omega (arith, tape_len-parts shape))

pub length-read_part : (shape : Shape) (tape : List ℕ) → length tape ≡ tape_len shape → length (read_part shape tape) ≡ read_cells_len shape
length-read_part shape tape h =
    length-take-le (read_cells_len shape) (drop (write_cells_len shape) tape) (omega (arith, tape_len-parts shape, length-drop (write_cells_len shape) tape))

pub length-keyed_part : (shape : Shape) (tape : List ℕ) → length tape ≡ tape_len shape →
    length (keyed_part shape tape) ≡ shape.logs * turn_count shape * cell_len shape
length-keyed_part shape tape h =
    omega (arith, tape_len-parts shape, length-drop (write_cells_len shape + read_cells_len shape) tape)

pub length-piece : (size i : ℕ) (bytes : List ℕ) → (i + 1) * size ≤ length bytes → length (piece size i bytes) ≡ size
length-piece size i bytes h = length-take-le size (drop (i * size) bytes) (omega (arith, length-drop (i * size) bytes))

-- a keyed cell is whole
pub length-keyed_cell : (shape : Shape) (tape : List ℕ) (log s : ℕ) → length tape ≡ tape_len shape → log < shape.logs → s < turn_count shape →
    length (keyed_cell shape tape log s) ≡ cell_len shape
length-keyed_cell shape tape log s whole log_in number_in =
    length-piece (cell_len shape) (log * turn_count shape + s) (keyed_part shape tape)
    (rw (length-keyed_part shape tape whole) (place_within log s shape.logs (turn_count shape) (cell_len shape) log_in number_in))
