-- How long a tape in format 2 is, and what its cells have.
use Rattle.std.proofs.Common.{◌≡◌, ℕ, ◌+◌, ◌-◌, ◌*◌, ◌≤◌, true, false, cond, List, ◌++◌, length, take, drop, replicate, refl, ap, ap₂, sym, ◌∙◌, arith, length-append, length-drop, append_assoc, ◌%◌, inl, inr}
use Rattle.std.specs.Prelude.{◌==◌}
use Rattle.std.proofs.Math.Nat.{mul-le-mul_right}
use Rattle.std.proofs.lemmas.Bool.{cases_lt}
use Rattle.std.specs.List.{flat_map}
use Rattle.std.specs.Int.{w32, from_be_bytes}
use Rattle.std.proofs.lemmas.List.{take_at, drop_at, take-take, drop-take, take-append-le, drop-append-le, length-take-le}
use Rattle.tk_shape.specs.declared.shape.Shape.{Shape}
use Rattle.tk_shape.specs.Lengths.{turn_count, seed_len, vector_len, piece_len, read_cell_len, tape_len}
use Rattle.tk_shape.specs.Lifting.{lifted_shape}
use Rattle.tk_words.specs.Pieces.{piece, word_at_byte}
use Rattle.tk_words.specs.Words.{write_cells_len, read_cells_len, write_part, read_part, keyed_part, read_cell, cell_pair}
use Rattle.tk_words.specs.CellLaws.{tape_len-parts, length-write_part, length-read_part, length-keyed_part, length-piece}
use Rattle.tk_words.specs.Lifting.{with_zero_seed, lifted_read_cell, read_cells, lifted_tape}
use Rattle.tk_words.proofs.Flat.{Resizes, length-flat, piece-flat, piece-behind}
use Rattle.tk_words.proofs.Written.{twice}

-- ---- a shape of format 1

pub is_one : (shape : Shape) → (shape.format == 2) ≡ false → seed_len shape ≡ 0
is_one shape one = ap (λ two. cond two 32 0) one

vector_piece : (shape : Shape) → (shape.format == 2) ≡ false → piece_len shape ≡ vector_len shape
vector_piece shape one = ap (λ n. n + vector_len shape) (is_one shape one) ∙ omega arith

-- ---- a cell

seeds_resize : (shape : Shape) → (shape.format == 2) ≡ false → Resizes (piece_len shape) (32 + vector_len shape) with_zero_seed
seeds_resize shape one v long =
    let seed : List ℕ = replicate 32 0 in
    let whole : length seed ≡ 32 = refl in
    omega (arith, length-append seed v, whole, long, vector_piece shape one)

pub cell_resizes : (shape : Shape) → (shape.format == 2) ≡ false →
    Resizes (read_cell_len shape) (read_cell_len (lifted_shape shape)) (lifted_read_cell shape)
cell_resizes shape one cell long =
    let each = shape.servers - 1 in
    let behind = drop 8 cell in
    let words : length (take 8 cell) ≡ 8 = length-take-le 8 cell (omega (arith, long)) in
    let room : 2 * each * piece_len shape ≤ length behind = omega (arith, length-drop 8 cell, long) in
    let seeded = length-flat with_zero_seed (piece_len shape) (32 + vector_len shape) (2 * each) behind (seeds_resize shape one) room in
    length-append (take 8 cell) _
    ∙ ap₂ (λ n (xs : List ℕ). n + length xs) words (sym (twice with_zero_seed (piece_len shape) each behind))
    ∙ ap (λ n. 8 + n) seeded

-- the words stand in front
word_in_front : (k : ℕ) (cell rest : List ℕ) → k + 4 ≤ 8 → 8 ≤ length cell →
    word_at_byte k (take 8 cell ++ rest) ≡ word_at_byte k cell
unfolding word_at_byte
word_in_front k cell rest low long =
    let front = take 8 cell in
    let m = 8 - k in
    let whole : length front ≡ 8 = length-take-le 8 cell long in
    let split : 8 ≡ k + m = omega (arith, low) in
    let behind : length (drop k front) ≡ m = omega (arith, length-drop k front, whole) in
    ap (from_be_bytes w32)
    (ap (take 4) (drop-append-le k front rest (omega (arith, whole, low)))
    ∙ take-append-le 4 (drop k front) rest (omega (arith, behind, low))
    ∙ ap (λ n. take 4 (drop k (take n cell))) split
    ∙ ap (take 4) (drop-take k m cell)
    ∙ take-take 4 m (drop k cell) (omega (arith, low)))

same_words : (shape : Shape) (cell : List ℕ) → 8 ≤ length cell → cell_pair shape (lifted_read_cell shape cell) ≡ cell_pair shape cell
same_words shape cell long =
    ap₂ (λ n m. (n % shape.buckets, m % shape.buckets)) (word_in_front 0 cell _ (omega arith) long)
    (word_in_front 4 cell _ (omega arith) long)

-- ---- the parts

-- the read cells in format 2
abbrev pub seeded_cells : Shape → List ℕ → List ℕ
seeded_cells shape tape = flat_map (lifted_read_cell shape) (read_cells shape tape)

pub lifted_two : (shape : Shape) (tape : List ℕ) → (shape.format == 2) ≡ true → lifted_tape shape tape ≡ tape
unfolding lifted_tape
lifted_two shape tape two =
    ap (λ b. cond b tape (write_part shape tape ++ seeded_cells shape tape ++ keyed_part shape tape)) two

-- in format 1, which part follows which
pub lifted_one : (shape : Shape) (tape : List ℕ) → (shape.format == 2) ≡ false →
    lifted_tape shape tape ≡ write_part shape tape ++ seeded_cells shape tape ++ keyed_part shape tape
unfolding lifted_tape
lifted_one shape tape one =
    ap (λ b. cond b tape (write_part shape tape ++ seeded_cells shape tape ++ keyed_part shape tape)) one

cells_fit : (shape : Shape) (tape : List ℕ) → length tape ≡ tape_len shape →
    turn_count shape * shape.clients * read_cell_len shape ≤ length (read_part shape tape)
cells_fit shape tape whole = omega (arith, length-read_part shape tape whole)

length-seeded : (shape : Shape) (tape : List ℕ) → (shape.format == 2) ≡ false → length tape ≡ tape_len shape →
    length (seeded_cells shape tape) ≡ read_cells_len (lifted_shape shape)
length-seeded shape tape one whole =
    length-flat (lifted_read_cell shape) (read_cell_len shape) (read_cell_len (lifted_shape shape))
    (turn_count shape * shape.clients) (read_part shape tape) (cell_resizes shape one) (cells_fit shape tape whole)

pub lifted-write_part : (shape : Shape) (tape : List ℕ) → (shape.format == 2) ≡ false → length tape ≡ tape_len shape →
    write_part (lifted_shape shape) (lifted_tape shape tape) ≡ write_part shape tape
lifted-write_part shape tape one whole =
    let behind = seeded_cells shape tape ++ keyed_part shape tape in
    ap (take (write_cells_len shape)) (lifted_one shape tape one
    ∙ append_assoc (write_part shape tape) (seeded_cells shape tape) (keyed_part shape tape))
    ∙ take_at (write_part shape tape) behind (write_cells_len shape) (length-write_part shape tape whole)

pub lifted-read_part : (shape : Shape) (tape : List ℕ) → (shape.format == 2) ≡ false → length tape ≡ tape_len shape →
    read_part (lifted_shape shape) (lifted_tape shape tape) ≡ seeded_cells shape tape
lifted-read_part shape tape one whole =
    let size = read_cells_len (lifted_shape shape) in
    let seeded = seeded_cells shape tape in
    ap (λ (xs : List ℕ). take size (drop (write_cells_len shape) xs)) (lifted_one shape tape one
    ∙ append_assoc (write_part shape tape) seeded (keyed_part shape tape))
    ∙ ap (take size) (drop_at (write_part shape tape) (seeded ++ keyed_part shape tape) (write_cells_len shape)
    (length-write_part shape tape whole))
    ∙ take_at seeded (keyed_part shape tape) size (length-seeded shape tape one whole)

pub lifted-keyed_part : (shape : Shape) (tape : List ℕ) → (shape.format == 2) ≡ false → length tape ≡ tape_len shape →
    keyed_part (lifted_shape shape) (lifted_tape shape tape) ≡ keyed_part shape tape
lifted-keyed_part shape tape one whole =
    let size = write_cells_len shape + read_cells_len (lifted_shape shape) in
    let writes = write_part shape tape in
    let seeded = seeded_cells shape tape in
    let long : length (writes ++ seeded) ≡ size =
    length-append writes seeded ∙ ap₂ (λ n m. n + m) (length-write_part shape tape whole) (length-seeded shape tape one whole)
    in
    ap (drop size) (lifted_one shape tape one)
    ∙ drop_at (writes ++ seeded) (keyed_part shape tape) size long

-- the lifted tape has the length of the shape of format 2
pub length-lifted : (shape : Shape) (tape : List ℕ) → (shape.format == 2) ≡ false → length tape ≡ tape_len shape →
    length (lifted_tape shape tape) ≡ tape_len (lifted_shape shape)
length-lifted shape tape one whole =
    let writes = write_part shape tape in
    let seeded = seeded_cells shape tape in
    ap length (lifted_one shape tape one)
    ∙ length-append (writes ++ seeded) (keyed_part shape tape)
    ∙ ap₂ (λ n m. n + m)
    (length-append writes seeded ∙ ap₂ (λ n m. n + m) (length-write_part shape tape whole) (length-seeded shape tape one whole))
    (length-keyed_part shape tape whole)
    ∙ sym (tape_len-parts (lifted_shape shape))

-- ---- the words of a read cell, of whatever turn and client

pub lifted-pair : (shape : Shape) (tape : List ℕ) (g c : ℕ) → (shape.format == 2) ≡ false → length tape ≡ tape_len shape →
    cell_pair (lifted_shape shape) (read_cell (lifted_shape shape) (lifted_tape shape tape) g c)
    ≡ cell_pair shape (read_cell shape tape g c)
lifted-pair shape tape g c one whole =
    let size = read_cell_len shape in
    let size' = read_cell_len (lifted_shape shape) in
    let i = g * shape.clients + c in
    let n = turn_count shape * shape.clients in
    let reads = read_part shape tape in
    let cell = piece size i reads in
    let regained : read_cell (lifted_shape shape) (lifted_tape shape tape) g c ≡ piece size' i (seeded_cells shape tape) =
    ap (piece size' i) (lifted-read_part shape tape one whole)
    in
    let long : length reads ≡ n * size = length-read_part shape tape whole in
    let words : cell_pair shape (piece size' i (seeded_cells shape tape)) ≡ cell_pair shape cell =
    elim (cases_lt i n) [
      | inl low ↦ ap (cell_pair shape) (piece-flat (lifted_read_cell shape) size size' n i reads (cell_resizes shape one)
          (cells_fit shape tape whole) low)
          ∙ same_words shape cell (omega (arith, length-piece size i reads (rw long (mul-le-mul_right size (omega (arith, low))))))
      | inr over ↦ ap (cell_pair shape) (piece-behind size' i (seeded_cells shape tape)
          (rw (length-seeded shape tape one whole) (mul-le-mul_right size' over))
          ∙ sym (piece-behind size i reads (rw long (mul-le-mul_right size over))))
    ]
    in
    ap (cell_pair shape) regained ∙ words
