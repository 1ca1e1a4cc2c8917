-- The lengths that a shape fixes.
use Rattle.std.specs.Prelude.{ℕ, ◌+◌, ◌-◌, ◌*◌, ◌/◌, ◌==◌, Bool, cond}
use Rattle.tk_shape.specs.declared.shape.Shape.{Shape}

-- the turns of a run, which are the numbers of a log
abbrev pub turn_count : Shape → ℕ
turn_count shape = shape.phases * shape.ticks

-- a position, two buckets and a block
abbrev pub slot_len : Shape → ℕ
slot_len shape = 16 + shape.block

-- a bucket's bytes
abbrev pub width : Shape → ℕ
width shape = shape.depth * slot_len shape

-- one bit for each bucket
abbrev pub vector_len : Shape → ℕ
vector_len shape = shape.buckets / 8

-- two words, a word for each hit, and a block
abbrev pub cell_len : Shape → ℕ
cell_len shape = 8 + 4 * shape.hits + shape.block

-- a seed: none in format 1
abbrev pub seed_len : Shape → ℕ
seed_len shape = cond (shape.format == 2) 32 0

-- what a read cell has for a bucket and a server: a seed, and then a vector
abbrev pub piece_len : Shape → ℕ
piece_len shape = seed_len shape + vector_len shape

-- two words, and for each of two buckets a piece for each server but the last
abbrev pub read_cell_len : Shape → ℕ
read_cell_len shape = 8 + 2 * (shape.servers - 1) * piece_len shape

-- a write cell and a read cell for each client and turn, and a keyed cell for each number of each log
abbrev pub tape_len : Shape → ℕ
tape_len shape =
    turn_count shape * (shape.clients * (cell_len shape + read_cell_len shape) + shape.logs * cell_len shape)

abbrev pub write_len : Shape → ℕ
write_len shape = 18 + 4 * shape.hits + shape.block

abbrev pub record_len : Shape → ℕ
record_len shape = 26 + 4 * shape.hits + shape.block

-- a read of the last server, or of any in format 1
abbrev pub read_len : Shape → ℕ
read_len shape = 14 + 2 * vector_len shape

-- a read with two seeds, in which the vectors that they expand to are shown or not
abbrev pub seed_read_len : Shape → Bool → ℕ
seed_read_len shape shown = 78 + cond shown (2 * vector_len shape) 0

abbrev pub reply_len : Shape → ℕ
reply_len shape = 14 + 2 * width shape
