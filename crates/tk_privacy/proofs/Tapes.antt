-- A tape made from cells, cut into them again; and a tape cut into its cells, made from them again.
use Rattle.std.proofs.Common.{◌≡◌, ℕ, zero, suc, ◌+◌, ◌*◌, ◌<◌, List, [], ◌++◌, length, take, drop}
use Rattle.std.proofs.Common.{refl, ap, ap₂, sym, ◌∙◌, arith, append_assoc, length-append, flat_map}
use Rattle.std.proofs.Common.{add-zero, suc-mul, zero-mul, add-mul, mul_assoc, append-nil, take-add, take-append-drop}
use Rattle.std.specs.List.{range_with_len}
use Rattle.std.proofs.lemmas.List.{take_all, drop-drop}
use Rattle.std.proofs.Math.Seq.{take-append_seam, drop-append_seam, drop-append-add}
use Rattle.tk_shape.specs.declared.shape.Shape.{Shape}
use Rattle.tk_shape.specs.Lengths.{turn_count, cell_len, read_cell_len, tape_len}
use Rattle.tk_words.specs.Pieces.{piece}
use Rattle.tk_words.specs.Words.{write_cell, read_cell, keyed_cell, write_part, read_part}
use Rattle.tk_words.specs.Words.{keyed_part, write_cells_len, read_cells_len}
use Rattle.tk_words.specs.CellLaws.{tape_len-parts, length-write_part, length-read_part, length-keyed_part}
use Rattle.tk_privacy.specs.Privacy.{cells, tape_of}

-- each of the cells of a turn, or of a log, has this many bytes
abbrev pub HasCells : ℕ → ℕ → (ℕ → List ℕ) → Type 0
HasCells size n cell = (k : ℕ) → k < n → length (cell k) ≡ size

length-cells_from : (size : ℕ) (cell : ℕ → List ℕ) (a n : ℕ) → HasCells size (a + n) cell →
    length (flat_map cell (range_with_len a n)) ≡ n * size
length-cells_from size cell a zero h = sym (zero-mul size)
length-cells_from size cell a (suc n) h =
    length-append (cell a) (flat_map cell (range_with_len (a + 1) n))
    ∙ ap₂ (λ x y. x + y) (h a (omega arith))
    (length-cells_from size cell (a + 1) n (λ k l. h k (omega arith)))
    ∙ omega (arith, suc-mul n size)

pub length-cells : (size : ℕ) (cell : ℕ → List ℕ) (n : ℕ) → HasCells size n cell →
    length (cells n cell) ≡ n * size
length-cells size cell n h = length-cells_from size cell 0 n (λ k l. h k (omega arith))

-- what stands after the first i cells begins with cell i
abbrev Follows : (ℕ → List ℕ) → ℕ → List ℕ → Type 0
Follows cell k xs = (more : List ℕ) × (xs ≡ cell k ++ more)

past_one : (size k : ℕ) (xs ys : List ℕ) → length xs ≡ size → drop (size + k) (xs ++ ys) ≡ drop k ys
past_one size k xs ys e = ap (λ n. drop (n + k) (xs ++ ys)) (sym e) ∙ drop-append-add xs ys k

drop-cells_from : (size : ℕ) (cell : ℕ → List ℕ) (a n i : ℕ) (rest : List ℕ) →
    HasCells size (a + n) cell → i < n →
    Follows cell (a + i) (drop (i * size) (flat_map cell (range_with_len a n) ++ rest))
drop-cells_from size cell a zero i rest h l = absurd (omega arith)
drop-cells_from size cell a (suc n) zero rest h l = (
  flat_map cell (range_with_len (a + 1) n) ++ rest,
  rw (zero-mul, add-zero) (append_assoc (cell a) (flat_map cell (range_with_len (a + 1) n)) rest),
)
drop-cells_from size cell a (suc n) (suc i) rest h l =
    let others = flat_map cell (range_with_len (a + 1) n) in
    let ih : Follows cell (a + 1 + i) (drop (i * size) (others ++ rest)) =
    drop-cells_from size cell (a + 1) n i rest (λ k m. h k (omega arith)) (omega arith) in
    let e : suc i * size ≡ size + i * size = omega (arith, suc-mul i size) in
    let at : a + 1 + i ≡ a + suc i = omega arith in (
      ih.0,
      ap (λ k. drop k ((cell a ++ others) ++ rest)) e
          ∙ ap (drop (size + i * size)) (append_assoc (cell a) others rest)
          ∙ past_one size (i * size) (cell a) (others ++ rest) (h a (omega arith))
          ∙ ih.1
          ∙ ap (λ k. cell k ++ ih.0) at,
    )

drop-cells : (size : ℕ) (cell : ℕ → List ℕ) (n i : ℕ) (rest : List ℕ) → HasCells size n cell →
    i < n →
    Follows cell i (drop (i * size) (cells n cell ++ rest))
drop-cells size cell n i rest h l =
    let f : Follows cell (0 + i) (drop (i * size) (cells n cell ++ rest)) =
    drop-cells_from size cell 0 n i rest (λ k m. h k (omega arith)) l in
    (f.0, f.1 ∙ ap (λ k. cell k ++ f.0) (omega arith))

drop-drop_plus : (a b : ℕ) (xs : List ℕ) → drop (a + b) xs ≡ drop b (drop a xs)
drop-drop_plus a b xs = sym (drop-drop b a xs)

-- the cell of row g and column c
pub piece-rows : (size : ℕ) (cell : ℕ → ℕ → List ℕ) (n m g c : ℕ) (rest : List ℕ) →
    ((g : ℕ) → g < n → HasCells size m (cell g)) → g < n → c < m →
    piece size (g * m + c) (cells n (λ g. cells m (cell g)) ++ rest) ≡ cell g c
piece-rows size cell n m g c rest h lg lc =
    let row : Follows (λ g. cells m (cell g)) g
    (drop (g * (m * size)) (cells n (λ g. cells m (cell g)) ++ rest)) =
    drop-cells (m * size) (λ g. cells m (cell g)) n g rest
    (λ k l. length-cells size (cell k) m (h k l)) lg in
    let one : Follows (cell g) c (drop (c * size) (cells m (cell g) ++ row.0)) =
    drop-cells size (cell g) m c row.0 (h g lg) lc in
    let e : (g * m + c) * size ≡ g * (m * size) + c * size = add-mul (g * m) c size
    ∙ ap (λ x. x + c * size) (mul_assoc g m size) in
    ap (λ k. take size (drop k (cells n (λ g. cells m (cell g)) ++ rest))) e
    ∙ ap (take size) (drop-drop_plus (g * (m * size)) (c * size)
    (cells n (λ g. cells m (cell g)) ++ rest))
    ∙ ap (λ xs. take size (drop (c * size) xs)) row.1
    ∙ ap (take size) one.1
    ∙ ap (λ k. take k (cell g c ++ one.0)) (sym (h g lg c lc))
    ∙ take-append_seam (cell g c) one.0

-- the same where nothing stands after the cells
pub piece-rows_alone : (size : ℕ) (cell : ℕ → ℕ → List ℕ) (n m g c : ℕ) →
    ((g : ℕ) → g < n → HasCells size m (cell g)) → g < n → c < m →
    piece size (g * m + c) (cells n (λ g. cells m (cell g))) ≡ cell g c
piece-rows_alone size cell n m g c h lg lc =
    ap (piece size (g * m + c)) (sym (append-nil (cells n (λ g. cells m (cell g)))))
    ∙ piece-rows size cell n m g c [] h lg lc

pub length-rows : (size : ℕ) (cell : ℕ → ℕ → List ℕ) (n m : ℕ) →
    ((g : ℕ) → g < n → HasCells size m (cell g)) →
    length (cells n (λ g. cells m (cell g))) ≡ n * m * size
length-rows size cell n m h =
    length-cells (m * size) (λ g. cells m (cell g)) n (λ k l. length-cells size (cell k) m (h k l))
    ∙ sym (mul_assoc n m size)

-- a list in front of another, taken and dropped
pub take_seam : (n : ℕ) (xs ys : List ℕ) → length xs ≡ n → take n (xs ++ ys) ≡ xs
take_seam n xs ys e = ap (λ k. take k (xs ++ ys)) (sym e) ∙ take-append_seam xs ys

pub drop_seam : (n : ℕ) (xs ys : List ℕ) → length xs ≡ n → drop n (xs ++ ys) ≡ ys
drop_seam n xs ys e = ap (λ k. drop k (xs ++ ys)) (sym e) ∙ drop-append_seam xs ys

-- ---- lists of cells that agree

same-cells_from : (f g : ℕ → List ℕ) (a n : ℕ) → ((k : ℕ) → k < a + n → f k ≡ g k) →
    flat_map f (range_with_len a n) ≡ flat_map g (range_with_len a n)
same-cells_from f g a zero h = refl
same-cells_from f g a (suc n) h =
    ap₂ (λ (x y : List ℕ). x ++ y) (h a (omega arith))
    (same-cells_from f g (a + 1) n (λ k l. h k (omega arith)))

pub same-cells : (f g : ℕ → List ℕ) (n : ℕ) → ((k : ℕ) → k < n → f k ≡ g k) → cells n f ≡ cells n g
same-cells f g n h = same-cells_from f g 0 n (λ k l. h k (omega arith))

pub same-rows : (f g : ℕ → ℕ → List ℕ) (n m : ℕ) → ((k c : ℕ) → k < n → c < m → f k c ≡ g k c) →
    cells n (λ k. cells m (f k)) ≡ cells n (λ k. cells m (g k))
same-rows f g n m h = same-cells (λ k. cells m (f k)) (λ k. cells m (g k)) n
    (λ k l. same-cells (f k) (g k) m (λ c lc. h k c l lc))

-- ---- a part from its pieces

pieces_from : (size o a n : ℕ) (xs : List ℕ) →
    flat_map (λ k. piece size (o + k) xs) (range_with_len a n)
    ≡ take (n * size) (drop ((o + a) * size) xs)
pieces_from size o a zero xs = ap (λ k. take k (drop ((o + a) * size) xs)) (sym (zero-mul size))
pieces_from size o a (suc n) xs =
    let start = (o + a) * size in
    let next : (o + (a + 1)) * size ≡ start + size =
    omega (arith, suc-mul (o + a) size, ap (λ k. k * size) next_place) in
    let all : suc n * size ≡ size + n * size = omega (arith, suc-mul n size) in
    ap (λ ys. piece size (o + a) xs ++ ys)
    (pieces_from size o (a + 1) n xs
    ∙ ap (λ k. take (n * size) (drop k xs)) next
    ∙ ap (take (n * size)) (drop-drop_plus start size xs))
    ∙ sym (take-add size (n * size) (drop start xs))
    ∙ ap (λ k. take k (drop start xs)) (sym all)
  where
    next_place : o + (a + 1) ≡ suc (o + a)
    next_place = omega arith

row-pieces : (size m g : ℕ) (xs : List ℕ) → cells m (λ c. piece size (g * m + c) xs)
    ≡ piece (m * size) g xs
row-pieces size m g xs =
    pieces_from size (g * m) 0 m xs
    ∙ ap (λ k. take (m * size) (drop (k * size) xs)) (add-zero (g * m))
    ∙ ap (λ k. take (m * size) (drop k xs)) (mul_assoc g m size)

pub rows-pieces : (size n m : ℕ) (xs : List ℕ) → length xs ≡ n * m * size →
    cells n (λ g. cells m (λ c. piece size (g * m + c) xs)) ≡ xs
rows-pieces size n m xs e =
    same-cells (λ g. cells m (λ c. piece size (g * m + c) xs)) (λ g. piece (m * size) g xs) n
    (λ g l. row-pieces size m g xs)
    ∙ same-cells (λ g. piece (m * size) g xs) (λ g. piece (m * size) (0 + g) xs) n
    (λ g l. ap (λ k. piece (m * size) k xs) (omega arith))
    ∙ pieces_from (m * size) 0 0 n xs
    ∙ ap (λ k. take (n * (m * size)) (drop k xs)) (zero-mul (m * size))
    ∙ take_all (n * (m * size)) xs (omega (arith, e, mul_assoc n m size))

-- ---- a tape and its cells

-- what the cells of a tape are, and that it has the length of a tape
pub record IsTape (shape : Shape) (write read keyed : ℕ → ℕ → List ℕ) (tape : List ℕ) : Type 0 where
  pub whole : length tape ≡ tape_len shape
  pub writes : (g c : ℕ) → g < turn_count shape → c < shape.clients → write_cell shape tape g c
      ≡ write g c
  pub reads : (g c : ℕ) → g < turn_count shape → c < shape.clients → read_cell shape tape g c
      ≡ read g c
  pub keyeds : (log s : ℕ) → log < shape.logs → s < turn_count shape → keyed_cell shape tape log s
      ≡ keyed log s

-- cells that a tape may have
pub record AreCells (shape : Shape) (write read keyed : ℕ → ℕ → List ℕ) : Type 0 where
  pub write_sized : (g : ℕ) → g < turn_count shape →
      HasCells (cell_len shape) shape.clients (write g)
  pub read_sized : (g : ℕ) → g < turn_count shape →
      HasCells (read_cell_len shape) shape.clients (read g)
  pub keyed_sized : (log : ℕ) → log < shape.logs →
      HasCells (cell_len shape) (turn_count shape) (keyed log)

pub same-write_part : (shape : Shape) (u : List ℕ) → length u ≡ tape_len shape →
    cells (turn_count shape) (λ g. cells shape.clients (write_cell shape u g)) ≡ write_part shape u
same-write_part shape u e =
    rows-pieces (cell_len shape) (turn_count shape) shape.clients (write_part shape u)
    (length-write_part shape u e)

pub same-read_part : (shape : Shape) (u : List ℕ) → length u ≡ tape_len shape →
    cells (turn_count shape) (λ g. cells shape.clients (read_cell shape u g)) ≡ read_part shape u
same-read_part shape u e =
    rows-pieces (read_cell_len shape) (turn_count shape) shape.clients (read_part shape u)
    (length-read_part shape u e)

pub same-keyed_part : (shape : Shape) (u : List ℕ) → length u ≡ tape_len shape →
    cells shape.logs (λ log. cells (turn_count shape) (keyed_cell shape u log)) ≡ keyed_part shape u
same-keyed_part shape u e =
    rows-pieces (cell_len shape) shape.logs (turn_count shape) (keyed_part shape u)
    (length-keyed_part shape u e)

-- a tape is made from its cells
pub tape_of-own : (shape : Shape) (u : List ℕ) → length u ≡ tape_len shape →
    tape_of shape (write_cell shape u) (read_cell shape u) (keyed_cell shape u) ≡ u
unfolding tape_of
tape_of-own shape u e =
    ap₂ (λ (x y : List ℕ). x ++ y) (same-write_part shape u e)
    (ap₂ (λ (x y : List ℕ). x ++ y) (same-read_part shape u e) (same-keyed_part shape u e))
    ∙ ap (λ ys. write_part shape u ++ (read_part shape u ++ ys))
    (drop-drop_plus (write_cells_len shape) (read_cells_len shape) u)
    ∙ ap (λ ys. write_part shape u ++ ys)
    (take-append-drop (read_cells_len shape) (drop (write_cells_len shape) u))
    ∙ take-append-drop (write_cells_len shape) u

-- tapes made from the same cells are the same
pub same-tape_of : (shape : Shape) (write read keyed write' read' keyed' : ℕ → ℕ → List ℕ) →
    ((g c : ℕ) → g < turn_count shape → c < shape.clients → write g c ≡ write' g c) →
    ((g c : ℕ) → g < turn_count shape → c < shape.clients → read g c ≡ read' g c) →
    ((log s : ℕ) → log < shape.logs → s < turn_count shape → keyed log s ≡ keyed' log s) →
    tape_of shape write read keyed ≡ tape_of shape write' read' keyed'
unfolding tape_of
same-tape_of shape write read keyed write' read' keyed' w r k =
    ap₂ (λ (x y : List ℕ). x ++ y) (same-rows write write' (turn_count shape) shape.clients w)
    (ap₂ (λ (x y : List ℕ). x ++ y) (same-rows read read' (turn_count shape) shape.clients r)
    (same-rows keyed keyed' shape.logs (turn_count shape) k))

-- ---- a tape made from cells has these cells

module _ (shape : Shape) (write read keyed : ℕ → ℕ → List ℕ)
    (sized : AreCells shape write read keyed) where
  writes : List ℕ
  writes = cells (turn_count shape) (λ g. cells shape.clients (write g))

  reads : List ℕ
  reads = cells (turn_count shape) (λ g. cells shape.clients (read g))

  keyeds : List ℕ
  keyeds = cells shape.logs (λ log. cells (turn_count shape) (keyed log))

  length-writes : length writes ≡ write_cells_len shape
  unfolding writes
  length-writes = length-rows (cell_len shape) write (turn_count shape) shape.clients
      sized.write_sized

  length-reads : length reads ≡ read_cells_len shape
  unfolding reads
  length-reads = length-rows (read_cell_len shape) read (turn_count shape) shape.clients
      sized.read_sized

  length-keyeds : length keyeds ≡ shape.logs * turn_count shape * cell_len shape
  unfolding keyeds
  length-keyeds = length-rows (cell_len shape) keyed shape.logs (turn_count shape) sized.keyed_sized

  write_cell-tape_of : (g c : ℕ) → g < turn_count shape → c < shape.clients →
      write_cell shape (tape_of shape write read keyed) g c ≡ write g c
  unfolding tape_of writes reads keyeds
  write_cell-tape_of g c lg lc =
      ap (piece (cell_len shape) (g * shape.clients + c))
      (take_seam (write_cells_len shape) writes (reads ++ keyeds) length-writes)
      ∙ piece-rows_alone (cell_len shape) write (turn_count shape) shape.clients g c
      sized.write_sized lg lc

  read_cell-tape_of : (g c : ℕ) → g < turn_count shape → c < shape.clients →
      read_cell shape (tape_of shape write read keyed) g c ≡ read g c
  unfolding tape_of writes reads keyeds
  read_cell-tape_of g c lg lc =
      ap (λ xs. piece (read_cell_len shape) (g * shape.clients + c)
      (take (read_cells_len shape) xs))
      (drop_seam (write_cells_len shape) writes (reads ++ keyeds) length-writes)
      ∙ ap (piece (read_cell_len shape) (g * shape.clients + c))
      (take_seam (read_cells_len shape) reads keyeds length-reads)
      ∙ piece-rows_alone (read_cell_len shape) read (turn_count shape) shape.clients g c
      sized.read_sized lg lc

  keyed_cell-tape_of : (log s : ℕ) → log < shape.logs → s < turn_count shape →
      keyed_cell shape (tape_of shape write read keyed) log s ≡ keyed log s
  unfolding tape_of writes reads keyeds
  keyed_cell-tape_of log s ll ls =
      ap (piece (cell_len shape) (log * turn_count shape + s))
      (drop-drop_plus (write_cells_len shape) (read_cells_len shape) (writes ++ (reads ++ keyeds))
      ∙ ap (drop (read_cells_len shape))
      (drop_seam (write_cells_len shape) writes (reads ++ keyeds) length-writes)
      ∙ drop_seam (read_cells_len shape) reads keyeds length-reads)
      ∙ piece-rows_alone (cell_len shape) keyed shape.logs (turn_count shape) log s
      sized.keyed_sized ll ls

  length-tape_of : length (tape_of shape write read keyed) ≡ tape_len shape
  unfolding tape_of writes reads keyeds
  length-tape_of =
      length-append writes (reads ++ keyeds)
      ∙ ap₂ (λ (x y : ℕ). x + y) length-writes
      (length-append reads keyeds ∙ ap₂ (λ (x y : ℕ). x + y) length-reads length-keyeds)
      ∙ omega (arith, tape_len-parts shape)

  pub tape_of-IsTape : IsTape shape write read keyed (tape_of shape write read keyed)
  tape_of-IsTape =
      record {
        whole = length-tape_of;
        writes = write_cell-tape_of;
        reads = read_cell-tape_of;
        keyeds = keyed_cell-tape_of;
      }
